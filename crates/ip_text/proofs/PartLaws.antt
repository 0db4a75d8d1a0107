-- A pair and an octet can stand in a row.
use Rattle.std.proofs.Common.{◌≡◌, ◌<◌, ℕ, List, [], ◌∷◌, true, false, refl, Option, Some, None, sym, ap, ◌∙◌, arith, inl}
use Rattle.std.specs.Prelude.{IfSome}
use Rattle.std.proofs.lemmas.Bool.{and_parts, false≢true}
use Rattle.ip_text.specs.declared.rows.Part.{Part}
use Rattle.ip_text.specs.declared.rows.Part.TheVariants.{Pair, Octet}
use Rattle.ip_text.specs.Numerals.{is_hex, all_hex}
use Rattle.ip_text.specs.Parts.{IsPart, between}
use Rattle.ip_text.proofs.ScanLaws.{Lacks}
use Rattle.ip_text.proofs.Hex.{hex_begins}
use Rattle.ip_text.proofs.Numbers.{number_begins, number_lacks}
use Rattle.ip_text.proofs.RowLaws.{IsItem}

pub hex_lacks : (s : ℕ) (t : List ℕ) → is_hex s ≡ false → all_hex t ≡ true → Lacks s t
hex_lacks s [] other all = tt
hex_lacks s (b ∷ bs) other all =
    let parts = and_parts (is_hex b) (all_hex bs) all in
    (λ same. false≢true (sym other ∙ ap is_hex (sym same) ∙ parts.0), hex_lacks s bs other parts.1)

pub part_item : (part : Part) → IsItem (IsPart part) (between part)
part_item Pair = record { lacks = λ a t is. hex_lacks 58 t refl is.digits; some = hex_begins 2 2 (omega arith) }
part_item Octet = record { lacks = λ a t is. number_lacks 0 255 46 a t (omega arith) (inl (omega arith)) is; some = number_begins 0 255 (omega arith) (omega arith) }

pub in_range : (o : Option ℕ) (v m : ℕ) → o ≡ Some v → IfSome o (λ x. x < m) → v < m
in_range None v m e less = absurd cc
in_range (Some x) v m e less = let same : x ≡ v = cc in omega arith

pub not_both : (o : Option ℕ) (v : ℕ) → o ≡ None → o ≡ Some v → ⊥
not_both o v none some = cc (none, some)
