-- Each text has one outcome.
use Rattle.std.proofs.Common.{◌≡◌, ◌∙◌, ◌<◌, ◌≤◌, ℕ, List, [], None, Option, Some, Result, Ok, Err, length, get_or, ap, sym, subst, arith}
use Rattle.std.proofs.lemmas.Option.{same_Some}
use Rattle.chip_core.specs.Chip.{IsImage, view_of}
use Rattle.chip_rows.specs.Difference.{first_differing}
use Rattle.io_edge.specs.Texts.{HasLonger, HasText, Texts, text_of}
use Rattle.net_types.specs.declared.table.Table.{Table}
use Rattle.offline_run.specs.Check.{IsRefusedFor, IsSavedText, IsTakenOver}
use Rattle.offline_run.specs.Offline.{IsCheckOf}
use Rattle.run_outcome.specs.declared.refusal.SavedRefusal.{SavedRefusal}
use Rattle.run_outcome.specs.declared.refusal.SavedRefusal.TheVariants.{NotJson, BadShape, BadDigest, BadState, BadRows, ChipDiffers}
use Rattle.saved_state.proofs.SavedForms.{saved_form}
use Rattle.saved_state.specs.Contents.{Body, Contents, contents_of, saved_of}
use Rattle.saved_state.specs.Texts.{HasShape, Says, digest_of}
use Rattle.serde_json.specs.Data.{Data}
use Rattle.std.specs.Prelude.{IsSomeAnd}
use Rattle.switch_model.specs.Built.{built}
use Rattle.switch_model.specs.declared.verdict.Reason.{Reason}
use Rattle.switch_model.specs.PlainState.{PlainState, empty}
use Rattle.switch_model.specs.Rows.{rows}
use Rattle.switch_model.specs.Sound.{acts_of}

found : (d : Data) (b : Body) (t : List ℕ) → HasShape d b t → saved_of d ≡ Some (b, (t, tt))
found d b t h = subst (λ (e : Data). saved_of e ≡ Some (b, (t, tt))) h.json (saved_form.again (b, (t, tt)) (h.legal, (h.hex, tt)))

same_body : (bytes : List ℕ) (a b : Body) (s t : List ℕ) → Says bytes a s → Says bytes b t → (a ≡ b) × (s ≡ t)
same_body bytes a b s t x y =
    let value : x.value ≡ y.value = same_Some _ _ (sym x.json.1 ∙ y.json.1) in
    let mine : saved_of x.value ≡ Some (a, (s, tt)) = found x.value a s x.shape in
    let theirs : saved_of x.value ≡ Some (b, (t, tt)) = subst (λ (d : Data). saved_of d ≡ Some (b, (t, tt))) (sym value) (found y.value b t y.shape) in
    let both : (a, (s, tt)) ≡ (b, (t, tt)) = same_Some _ _ (sym mine ∙ theirs) in
    (ap (λ p. p.0) both, ap (λ p. p.1.0) both)

ok_same : (r : Result PlainState (ℕ × Reason)) (m n : PlainState) → r ≡ Ok m → r ≡ Ok n → m ≡ n
ok_same r m n is also = let both = sym is ∙ also in cc

ok_err : (r : Result PlainState (ℕ × Reason)) (m : PlainState) (e : ℕ × Reason) → r ≡ Ok m → r ≡ Err e → ⊥
ok_err r m e is also = let both = sym is ∙ also in cc

none_some : (o : Option Table) (t : Table) → o ≡ None → o ≡ Some t → ⊥
none_some o t is also = let both = sym is ∙ also in cc

same_contents : (bytes : List ℕ) (c d : Contents) → IsSavedText bytes c → IsSavedText bytes d → c ≡ d
same_contents bytes c d x y =
    let body : x.body ≡ y.body = (same_body bytes x.body y.body (digest_of x.body) (digest_of y.body) x.says y.says).0 in
    let here : built empty (acts_of (contents_of y.body).state) ≡ Ok c.state = subst (λ (b : Body). built empty (acts_of (contents_of b).state) ≡ Ok c.state) body x.built in
    let state : c.state ≡ d.state = ok_same _ c.state d.state here y.built in
    let version : c.version ≡ d.version = x.version ∙ ap (λ (b : Body). (contents_of b).version) body ∙ sym y.version in
    let caps : c.caps ≡ d.caps = x.caps ∙ ap (λ (b : Body). (contents_of b).caps) body ∙ sym y.caps in
    let tables : c.tables ≡ d.tables = x.tables ∙ ap (λ (b : Body). (contents_of b).tables) body ∙ sym y.tables in
    λ i. record { caps = caps i; tables = tables i; state = state i; version = version i }

-- a text that is taken over isn't refused
pub taken_once : (bytes : List ℕ) (c : Contents) (why : SavedRefusal) → IsTakenOver bytes c → IsRefusedFor bytes why → ⊥
taken_once bytes c NotJson taken refused = refused taken.text.says.value taken.text.says.json
taken_once bytes c BadShape taken refused =
    let says = taken.text.says in
    let value : says.value ≡ refused.value = same_Some _ _ (sym says.json.1 ∙ refused.json.1) in
    refused.none taken.text.body (digest_of taken.text.body) (subst (λ (d : Data). HasShape d taken.text.body (digest_of taken.text.body)) value says.shape)
taken_once bytes c BadDigest taken refused =
    let same = same_body bytes refused.body taken.text.body refused.digest (digest_of taken.text.body) refused.says taken.text.says in
    refused.other (same.1 ∙ ap digest_of (sym same.0))
taken_once bytes c (BadState reason) taken refused =
    let body : refused.body ≡ taken.text.body = (same_body bytes refused.body taken.text.body (digest_of refused.body) (digest_of taken.text.body) refused.says taken.text.says).0 in
    ok_err _ c.state (refused.index, reason) taken.text.built (subst (λ (b : Body). built empty (acts_of (contents_of b).state) ≡ Err (refused.index, reason)) body refused.refused)
taken_once bytes c BadRows taken refused =
    let same : c ≡ refused.contents = same_contents bytes c refused.contents taken.text refused.text in
    refused.none (subst (λ (d : Contents). IsImage d.caps d.tables) same taken.image)
taken_once bytes c (ChipDiffers t) taken refused =
    let same : c ≡ refused.contents = same_contents bytes c refused.contents taken.text refused.text in
    none_some _ t (subst (λ (d : Contents). first_differing (view_of d.tables) (rows d.state) ≡ None) same taken.alike) refused.differs

second : List (List ℕ) → List ℕ
second words = get_or words 1 []

-- the words ask for one name
pub same_name : (words : List (List ℕ)) (a b : List ℕ) → IsCheckOf a words → IsCheckOf b words → a ≡ b
unfolding second
same_name words a b x y = ap second (sym x.0 ∙ y.0)

-- one text stands under a name
pub same_text : (told : Option Texts) (texts : Texts) (a b x y : List ℕ) → told ≡ Some texts → a ≡ b → HasText told a x → HasText told b y → x ≡ y
same_text told texts a b x y is same one two =
    let mine : text_of a texts ≡ Some x = subst (λ (o : Option Texts). HasText o a x) is one in
    let theirs : text_of b texts ≡ Some y = subst (λ (o : Option Texts). HasText o b y) is two in
    same_Some _ _ (sym mine ∙ ap (λ (n : List ℕ). text_of n texts) same ∙ theirs)

-- and it isn't longer than it is
pub not_longer : (told : Option Texts) (texts : Texts) (a b x : List ℕ) (limit : ℕ) → told ≡ Some texts → a ≡ b → HasText told a x → length x ≤ limit → HasLonger told b limit → ⊥
not_longer told texts a b x limit is same one within longer =
    let mine : text_of b texts ≡ Some x = subst (λ (n : List ℕ). text_of n texts ≡ Some x) same (subst (λ (o : Option Texts). HasText o a x) is one) in
    let far : IsSomeAnd (text_of b texts) (λ bytes. limit < length bytes) = subst (λ (o : Option Texts). HasLonger o b limit) is longer in
    let much : limit < length x = subst (λ (o : Option (List ℕ)). IsSomeAnd o (λ bytes. limit < length bytes)) mine far in
    absurd (omega (arith, within, much))
