-- A text's name is a file's name, and so is that of the file beside it.
use Rattle.std.proofs.Common.{◌≡◌, ◌≢◌, ◌∙◌, ◌&&◌, ℕ, Bool, true, false, List, [], ◌∷◌, length, nat_le, refl, sym, ap, arith, true≢false, get_or}
use Rattle.std.specs.List.{AllByRecursion}
use Rattle.net_types.specs.Names.{is_name, is_name_byte, is_name_start, all_name_bytes}
use Rattle.io_edge.specs.Paths.{IsFileName, IsInFolder, path_in, name_beside}

both_true : (a b : Bool) → (a && b) ≡ true → (a ≡ true) × (b ≡ true)
both_true true b e = (refl, e)
both_true false b e = absurd (true≢false (sym e))

no_slash : (bs : List ℕ) → all_name_bytes bs ≡ true → AllByRecursion (λ byte. byte ≢ 47) bs
no_slash [] e = tt
no_slash (b ∷ bs) e =
    let p = both_true (is_name_byte b) (all_name_bytes bs) e in
    (λ (h : b ≡ 47). true≢false (sym p.0 ∙ ap is_name_byte h), no_slash bs p.1)

first_of : List ℕ → ℕ
first_of bs = get_or bs 0 0

named : (name : List ℕ) → is_name name ≡ true → IsFileName name
unfolding first_of
named [] e = absurd (true≢false (sym e))
named (b ∷ bs) e =
    let p = both_true (is_name_start b && nat_le (length (b ∷ bs)) 64) (all_name_bytes (b ∷ bs)) e in
    let q = both_true (is_name_start b) (nat_le (length (b ∷ bs)) 64) p.0 in
    let start : b ≢ 46 = λ (h : b ≡ 46). true≢false (sym q.0 ∙ ap is_name_start h) in
    record {
      some = λ h. absurd (omega (arith, ap length h));
      below = λ h. start (ap first_of h);
      within = λ h. start (ap first_of h);
      flat = no_slash (b ∷ bs) p.1;
    }

beside : (name : List ℕ) → is_name name ≡ true → IsFileName (name_beside name)
beside name e = record {
  some = λ h. absurd (omega (arith, ap length h));
  below = λ h. absurd (omega (arith, ap length h));
  within = λ h. absurd (omega (arith, ap length h));
  flat = (λ h. absurd (omega (arith, h)), (λ h. absurd (omega (arith, h)), (λ h. absurd (omega (arith, h)), (λ h. absurd (omega (arith, h)), (λ h. absurd (omega (arith, h)), (named name e).flat)))));
}

pub text_inside : (folder name path : List ℕ) → is_name name ≡ true → path ≡ path_in folder name → IsInFolder folder path
text_inside folder name path e is = (name, named name e, is)

pub beside_inside : (folder name path : List ℕ) → is_name name ≡ true → path ≡ path_in folder (name_beside name) → IsInFolder folder path
beside_inside folder name path e is = (name_beside name, beside name e, is)
