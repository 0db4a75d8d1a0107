-- What the parser makes of words without a hyphen at their front.
use Rattle.std.proofs.Common.{◌≡◌, ◌∙◌, ◌||◌, ◌≤◌, ◌<◌, ℕ, zero, suc, map, drop, slice_index_or, Bool, true, false, List, [], ◌∷◌, length, Option, Some, None, option_map, is_some, codes, refl, sym, ap, ap₂, subst, arith, true≢false}
use Rattle.std.specs.List.{list_any}
use Rattle.std.specs.Str.{bytes_eq}
use Rattle.std.proofs.lemmas.Slice.Eq.{bytes_eq-Decides}
use Rattle.clap.specs.Walk.{Row, Text, first_of, rows_of}
use Rattle.std.specs.Box.{box_value}
use Rattle.clap.specs.Matches.{first_value, found_of, subcommand_name_of}
use Rattle.clap.specs.declared.parser.matches.ArgMatches.{ArgMatches}
use Rattle.clap.specs.declared.parser.matches.ArgMatches.TheViews.{out-ArgMatches, out-SubCommand}
use Rattle.clap.specs.declared.parser.matches.Found.{Found}
use Rattle.clap.proofs.WalkLemmas.{first_value-rows}
use Rattle.clap.specs.Simple.{is_simple, subcommand_of, subcommand_rows_of}
use Rattle.clap.specs.Takes.{takes}
use Rattle.clap.specs.Faults.{fault_of, is_simple_and_free}
use Rattle.clap.specs.Kinds.{Kinds}
use Rattle.clap.proofs.OnLiterals.{clap_on_literals}
use Rattle.agent_words.specs.Words.{Form, run_form, keep_form, check_form, gen_form, words_of, begins_with_hyphen}
use Rattle.agent_words.specs.Parser.{agent_app, form_in, form_from}

pub simple : is_simple agent_app ≡ true
unfolding clap_on_literals
simple = refl

pub simple_and_free : is_simple_and_free agent_app ≡ true
unfolding clap_on_literals
simple_and_free = refl

-- ---- words of the grammar are taken

keep_taken : (name : Text) → begins_with_hyphen name ≡ false → takes agent_app (words_of (keep_form name)) ≡ true
unfolding clap_on_literals
keep_taken [] e = refl
keep_taken (x ∷ xs) e = simp (e)

check_taken : (name : Text) → begins_with_hyphen name ≡ false → takes agent_app (words_of (check_form name)) ≡ true
unfolding clap_on_literals
check_taken [] e = refl
check_taken (x ∷ xs) e = simp (e)

gen_taken : (seed count : Text) → begins_with_hyphen seed ≡ false → begins_with_hyphen count ≡ false → takes agent_app (words_of (gen_form seed count)) ≡ true
unfolding clap_on_literals
gen_taken [] [] e f = refl
gen_taken [] (y ∷ ys) e f = simp (f)
gen_taken (x ∷ xs) [] e f = simp (e)
gen_taken (x ∷ xs) (y ∷ ys) e f = simp (e, f)

run_taken : takes agent_app (words_of run_form) ≡ true
unfolding clap_on_literals
run_taken = refl

either_false : (a b : Bool) → (a || b) ≡ false → (a ≡ false) × (b ≡ false)
either_false true b e = absurd (true≢false e)
either_false false b e = (refl, e)

abbrev pub NoneHyphened : List Text → Type 0
NoneHyphened ws = list_any begins_with_hyphen ws ≡ false

pub form_taken : (f : Form) → NoneHyphened (words_of f) → takes agent_app (words_of f) ≡ true
form_taken run_form e = run_taken
form_taken (keep_form name) e = keep_taken name (either_false _ _ e).0
form_taken (check_form name) e = check_taken name (either_false _ _ e).0
form_taken (gen_form seed count) e = let p = either_false (begins_with_hyphen seed) _ e in gen_taken seed count p.0 (either_false _ _ p.1).0

-- ---- and are found again in the matches

keep_found : (name : Text) → begins_with_hyphen name ≡ false → form_in (subcommand_of agent_app (words_of (keep_form name))) ≡ Some (keep_form name)
unfolding clap_on_literals
keep_found [] e = refl
keep_found (x ∷ xs) e = simp (e)

check_found : (name : Text) → begins_with_hyphen name ≡ false → form_in (subcommand_of agent_app (words_of (check_form name))) ≡ Some (check_form name)
unfolding clap_on_literals
check_found [] e = refl
check_found (x ∷ xs) e = simp (e)

gen_found : (seed count : Text) → begins_with_hyphen seed ≡ false → begins_with_hyphen count ≡ false → form_in (subcommand_of agent_app (words_of (gen_form seed count))) ≡ Some (gen_form seed count)
unfolding clap_on_literals
gen_found [] [] e f = refl
gen_found [] (y ∷ ys) e f = simp (f)
gen_found (x ∷ xs) [] e f = simp (e)
gen_found (x ∷ xs) (y ∷ ys) e f = simp (e, f)

run_found : form_in (subcommand_of agent_app (words_of run_form)) ≡ Some run_form
unfolding clap_on_literals
run_found = refl

pub form_found : (f : Form) → NoneHyphened (words_of f) → form_in (subcommand_of agent_app (words_of f)) ≡ Some f
form_found run_form e = run_found
form_found (keep_form name) e = keep_found name (either_false _ _ e).0
form_found (check_form name) e = check_found name (either_false _ _ e).0
form_found (gen_form seed count) e = let p = either_false (begins_with_hyphen seed) _ e in gen_found seed count p.0 (either_false _ _ p.1).0

abbrev is_form : Option Form → Bool
is_form None = false
is_form (Some f) = true

some_is : (f g : Form) → Some f ≡ Some g → f ≡ g
some_is f g e = grind (arith, e)

-- ---- other words have a fault

abbrev is_nil : Kinds → Bool
is_nil [] = true
is_nil (k ∷ ks) = false

fails : (ks : Kinds) → is_nil ks ≡ false → ks ≡ [] → ⊥
fails ks e f = true≢false (sym (ap is_nil f) ∙ e)

none : is_nil (fault_of agent_app []) ≡ false
unfolding clap_on_literals
none = refl

check_none : is_nil (fault_of agent_app (codes "check" ∷ [])) ≡ false
unfolding clap_on_literals
check_none = refl

gen_none : is_nil (fault_of agent_app (codes "gen" ∷ [])) ≡ false
unfolding clap_on_literals
gen_none = refl

gen_one : (a : Text) → begins_with_hyphen a ≡ false → is_nil (fault_of agent_app (codes "gen" ∷ a ∷ [])) ≡ false
unfolding clap_on_literals
gen_one [] e = refl
gen_one (x ∷ xs) e = simp (e)

run_two : (a b : Text) → begins_with_hyphen a ≡ false → begins_with_hyphen b ≡ false → is_nil (fault_of agent_app (codes "run" ∷ a ∷ b ∷ [])) ≡ false
unfolding clap_on_literals
run_two [] [] e f = refl
run_two [] (y ∷ ys) e f = simp (f)
run_two (x ∷ xs) [] e f = simp (e)
run_two (x ∷ xs) (y ∷ ys) e f = simp (e, f)

check_two : (a b : Text) → begins_with_hyphen a ≡ false → begins_with_hyphen b ≡ false → is_nil (fault_of agent_app (codes "check" ∷ a ∷ b ∷ [])) ≡ false
unfolding clap_on_literals
check_two [] [] e f = refl
check_two [] (y ∷ ys) e f = simp (f)
check_two (x ∷ xs) [] e f = simp (e)
check_two (x ∷ xs) (y ∷ ys) e f = simp (e, f)

stray : (w : Text) (ws : List Text) → begins_with_hyphen w ≡ false → bytes_eq (codes "run") w ≡ false → bytes_eq (codes "check") w ≡ false → bytes_eq (codes "gen") w ≡ false
    → is_nil (fault_of agent_app (w ∷ ws)) ≡ false
unfolding clap_on_literals
stray [] ws e r c g = refl
stray (x ∷ xs) ws e r c g = simp (e, r, c, g)

by_test : {G : Type 0} (b : Bool) → (b ≡ true → G) → (b ≡ false → G) → G
by_test true is isnt = is refl
by_test false is isnt = isnt refl

abbrev HasForm : List Text → Type 0
HasForm ws = (f : Form) × (ws ≡ words_of f)

after_run : (ws : List Text) → NoneHyphened ws → length ws ≤ 2 → fault_of agent_app (codes "run" ∷ ws) ≡ [] → HasForm (codes "run" ∷ ws)
after_run [] e few f = (run_form, refl)
after_run (a ∷ []) e few f = (keep_form a, refl)
after_run (a ∷ b ∷ []) e few f = let p = either_false (begins_with_hyphen a) _ e in absurd (fails _ (run_two a b p.0 (either_false _ _ p.1).0) f)
after_run (a ∷ b ∷ c ∷ ws) e few f = absurd (omega arith)

after_check : (ws : List Text) → NoneHyphened ws → length ws ≤ 2 → fault_of agent_app (codes "check" ∷ ws) ≡ [] → HasForm (codes "check" ∷ ws)
after_check [] e few f = absurd (fails _ check_none f)
after_check (a ∷ []) e few f = (check_form a, refl)
after_check (a ∷ b ∷ []) e few f = let p = either_false (begins_with_hyphen a) _ e in absurd (fails _ (check_two a b p.0 (either_false _ _ p.1).0) f)
after_check (a ∷ b ∷ c ∷ ws) e few f = absurd (omega arith)

after_gen : (ws : List Text) → NoneHyphened ws → length ws ≤ 2 → fault_of agent_app (codes "gen" ∷ ws) ≡ [] → HasForm (codes "gen" ∷ ws)
after_gen [] e few f = absurd (fails _ gen_none f)
after_gen (a ∷ []) e few f = absurd (fails _ (gen_one a (either_false _ _ e).0) f)
after_gen (a ∷ b ∷ []) e few f = (gen_form a b, refl)
after_gen (a ∷ b ∷ c ∷ ws) e few f = absurd (omega arith)

named : (name w : Text) (ws : List Text) → bytes_eq name w ≡ true → ((us : List Text) → NoneHyphened us → length us ≤ 2 → fault_of agent_app (name ∷ us) ≡ [] → HasForm (name ∷ us))
    → NoneHyphened ws → length ws ≤ 2 → fault_of agent_app (w ∷ ws) ≡ [] → HasForm (w ∷ ws)
named name w ws same after e few f =
    let is : name ≡ w = (bytes_eq-Decides name w).0 same in
    subst (λ (v : Text). HasForm (v ∷ ws)) is (after ws e few (ap (λ v. fault_of agent_app (v ∷ ws)) is ∙ f))

pub form_of_faultless : (ws : List Text) → NoneHyphened ws → length ws ≤ 3 → fault_of agent_app ws ≡ [] → HasForm ws
form_of_faultless [] e few f = absurd (fails _ none f)
form_of_faultless (w ∷ ws) e few f =
    let p = either_false (begins_with_hyphen w) _ e in
    by_test (bytes_eq (codes "run") w) (λ r. named _ w ws r after_run p.1 (omega (arith, few)) f)
    (λ r. by_test (bytes_eq (codes "check") w) (λ c. named _ w ws c after_check p.1 (omega (arith, few)) f)
    (λ c. by_test (bytes_eq (codes "gen") w) (λ g. named _ w ws g after_gen p.1 (omega (arith, few)) f)
    (λ g. absurd (fails _ (stray w ws p.0 r c g) f))))

module _ (ws : List Text) (e : NoneHyphened ws) (few : length ws ≤ 3) (faultless : fault_of agent_app ws ≡ []) where
  -- the form that the matches say is that of the words
  pub form_is_words : (f : Form) (sub : Option (Text × List Row)) → sub ≡ subcommand_of agent_app ws → Some f ≡ form_in sub → ws ≡ words_of f
  form_is_words f sub is says =
      let found = form_of_faultless ws e few faultless in
      let again : form_in (subcommand_of agent_app ws) ≡ Some found.0 =
      ap (λ us. form_in (subcommand_of agent_app us)) found.1 ∙ form_found found.0 (sym (ap (list_any begins_with_hyphen) found.1) ∙ e) in
      found.1 ∙ ap words_of (some_is found.0 f (sym again ∙ sym (ap form_in is) ∙ sym says))

  pub form_is_there : (sub : Option (Text × List Row)) → sub ≡ subcommand_of agent_app ws → None ≡ form_in sub → ⊥
  form_is_there sub is says =
      let found = form_of_faultless ws e few faultless in
      let again : form_in (subcommand_of agent_app ws) ≡ Some found.0 =
      ap (λ us. form_in (subcommand_of agent_app us)) found.1 ∙ form_found found.0 (sym (ap (list_any begins_with_hyphen) found.1) ∙ e) in
      true≢false (sym (ap is_form again) ∙ sym (ap (λ s. is_form (form_in s)) is) ∙ ap is_form (sym says))

pub words_taken : (ws : List Text) (f : Form) → NoneHyphened ws → ws ≡ words_of f → takes agent_app ws ≡ true
words_taken ws f e is = ap (takes agent_app) is ∙ form_taken f (sym (ap (list_any begins_with_hyphen) is) ∙ e)

some_of : {A : Type 0} (x y : A) → Some x ≡ Some y → x ≡ y
some_of x y e = grind (arith, e)

sub_parts : {B : Type 0} (o : Option B) (f : B → Text) (g : B → List Row) (name : Text) (rows : List Row) → Some name ≡ option_map f o
    → Some rows ≡ option_map (λ (p : Text × List Row). p.1) (option_map (λ b. (f b, g b)) o) → ◌≡◌ {A = Option (Text × List Row)} (Some (name, rows)) (option_map (λ b. (f b, g b)) o)
sub_parts None f g name rows n r = absurd (true≢false (ap is_some n))
sub_parts (Some b) f g name rows n r = ap₂ (λ (x : Text) (y : List Row). Some (x, y)) (some_of name (f b) n) (some_of rows (g b) r)

-- what the getters read of a subcommand says what its rows say
pub form_from_is : (m : ArgMatches) (name : Text) (found : Found) (first seed count : Option Text) → Some name ≡ subcommand_name_of m
    → Some (rows_of found) ≡ option_map (λ (p : Text × List Row). p.1) (subcommand_rows_of m)
    → first ≡ first_value found (codes "name") → seed ≡ first_value found (codes "seed") → count ≡ first_value found (codes "count")
    → form_from name first seed count ≡ form_in (subcommand_rows_of m)
form_from_is m name found first seed count n r a b c =
    let parts : ◌≡◌ {A = Option (Text × List Row)} (Some (name, rows_of found)) (subcommand_rows_of m) =
    sub_parts (out-ArgMatches m).subcommand (λ s. (out-SubCommand (box_value s)).name.now) (λ s. rows_of (found_of (out-SubCommand (box_value s)).matches)) name (rows_of found) n r in
    ap (λ x. form_from name x seed count) (a ∙ first_value-rows found (codes "name"))
    ∙ ap (λ x. form_from name (first_of (codes "name") (rows_of found)) x count) (b ∙ first_value-rows found (codes "seed"))
    ∙ ap (λ x. form_from name (first_of (codes "name") (rows_of found)) (first_of (codes "seed") (rows_of found)) x) (c ∙ first_value-rows found (codes "count"))
    ∙ ap form_in parts

-- ---- a look at each word

module _ {A : Type 0} (text : A → Text) where
  abbrev hyphened : List A → Bool
  hyphened xs = list_any begins_with_hyphen (map text xs)

  pub found_at : (xs : List A) (i : ℕ) (d : A) → i < length xs → begins_with_hyphen (text (slice_index_or xs i d)) ≡ true → hyphened (drop i xs) ≡ true
  found_at [] i d lt h = absurd (omega arith)
  found_at (x ∷ xs) zero d lt h = ap (λ b. b || hyphened xs) h
  found_at (x ∷ xs) (suc i) d lt h = found_at xs i d (omega (arith, lt)) h

  pub none_at : (xs : List A) (i : ℕ) (d : A) → i < length xs → begins_with_hyphen (text (slice_index_or xs i d)) ≡ false → hyphened (drop (suc i) xs) ≡ hyphened (drop i xs)
  none_at [] i d lt h = absurd (omega arith)
  none_at (x ∷ xs) zero d lt h = sym (ap (λ b. b || hyphened xs) h)
  none_at (x ∷ xs) (suc i) d lt h = none_at xs i d (omega (arith, lt)) h

  pub none_behind : (xs : List A) (i : ℕ) → length xs ≤ i → hyphened (drop i xs) ≡ false
  none_behind [] zero le = refl
  none_behind [] (suc i) le = refl
  none_behind (x ∷ xs) zero le = absurd (omega (arith, le))
  none_behind (x ∷ xs) (suc i) le = none_behind xs i (omega (arith, le))

  pub as_many : (xs : List A) → length (map text xs) ≡ length xs
  as_many [] = refl
  as_many (x ∷ xs) = ap suc (as_many xs)
