-- What follows of texts that are saved, and of those that are read.
use Rattle.std.proofs.Common.{◌≡◌, ◌≢◌, ℕ, ◌≤◌, List, Option, None, Some, Result, Ok, Err, true, false, bytes_eq, codes, refl, sym, ap, ◌∙◌, subst, arith}
use Rattle.std.specs.Prelude.{option_map, IfSome}
use Rattle.std.specs.Str.{IsUtf8}
use Rattle.std.proofs.lemmas.Bool.{true≢false}
use Rattle.std.proofs.lemmas.Slice.Eq.{bytes_eq-Decides}
use Rattle.std.proofs.lemmas.Option.{none-some, same_Some}
use Rattle.serde_json.specs.Data.{Data, object, member, no_members, string, depth}
use Rattle.serde_json.specs.Read.{read, max_depth}
use Rattle.serde_json.specs.Written.{compact_text, has_float}
use Rattle.net_types.specs.declared.table.Caps.{Caps}
use Rattle.net_types.specs.declared.table.Tables.{Tables}
use Rattle.switch_model.specs.declared.verdict.Reason.{Reason}
use Rattle.switch_model.specs.PlainState.{PlainState, empty}
use Rattle.switch_model.specs.Sound.{IsSound, acts_of}
use Rattle.switch_model.specs.Built.{built}
use Rattle.saved_state.specs.declared.fault.SavedFault.{SavedFault}
use Rattle.saved_state.specs.declared.fault.SavedFault.TheVariants.{NotJson, BadShape, BadDigest, BadState, NoMemory}
use Rattle.saved_state.specs.declared.saved.Saved.{Saved}
use Rattle.saved_state.specs.Contents.{Body, IsLegal, body_json, body_of, contents_of, saved_json, saved_of}
use Rattle.saved_state.specs.Digest.{hex_digest, is_digest}
use Rattle.saved_state.specs.Reading.{HasBadDigest, HasBadState, Holds, IsSaved, IsUnshaped, NotReadFor, Reads, ReadsBack, Restores, SameAnswer}
use Rattle.saved_state.specs.Texts.{HasShape, IsJson, Says, body_to_save, digest_of}
use Rattle.saved_state.proofs.SavedForms.{body_form, saved_form}

-- ---- saving

pub body_plain : (d : Data) (c : Body) → d ≡ body_json c → has_float d ≡ false
body_plain d c h = ap has_float h ∙ body_form.plain c

pub text_found : (value : Data) (digest : List ℕ) (c : Body) → value ≡ body_json c → digest ≡ hex_digest (compact_text value) → digest ≡ digest_of c
text_found value digest c body text = text ∙ ap (λ v. hex_digest (compact_text v)) body

pub whole_is : (whole value : Data) (digest : List ℕ) (c : Body) → value ≡ body_json c → digest ≡ hex_digest (compact_text value) → whole ≡ object (member (codes "body") value (member (codes "digest") (string digest) no_members)) → whole ≡ saved_json c (digest_of c)
whole_is whole value digest c body text h =
    let found : digest ≡ digest_of c = text ∙ ap (λ v. hex_digest (compact_text v)) body in
    h ∙ ap (λ v. object (member (codes "body") v (member (codes "digest") (string digest) no_members))) body ∙ ap (λ t. saved_json c t) found

pub text_is : (whole : Data) (c : Body) (bytes : List ℕ) → whole ≡ saved_json c (digest_of c) → (has_float whole ≡ false → bytes ≡ compact_text whole) → bytes ≡ compact_text (saved_json c (digest_of c))
text_is whole c bytes h text = text (ap has_float h ∙ saved_form.plain (c, (digest_of c, tt))) ∙ ap compact_text h

pub json_is : (whole : Data) (c : Body) (bytes : List ℕ) → whole ≡ saved_json c (digest_of c) → IsUtf8 bytes → (depth whole ≤ max_depth → read bytes ≡ Some whole) → IsJson bytes (saved_json c (digest_of c))
json_is whole c bytes h utf8 back =
    let flat : depth (saved_json c (digest_of c)) ≤ 7 = saved_form.shallow (c, (digest_of c, tt)) in
    let low : depth whole ≤ 7 = subst (λ d. depth d ≤ 7) (sym h) flat in
    (utf8, back (omega (arith, low)) ∙ ap Some h)

-- ---- reading

shaped : (d : Data) (c : Body) (t : List ℕ) → HasShape d c t → saved_of d ≡ Some (c, (t, tt))
shaped d c t shape = ap saved_of (sym shape.json) ∙ saved_form.again (c, (t, tt)) (shape.legal, (shape.hex, tt))

has_shape : (d : Data) (c : Body) (t : List ℕ) → saved_of d ≡ Some (c, (t, tt)) → HasShape d c t
has_shape d c t h = let s = saved_form.takes d (c, (t, tt)) h in record { json = s.0; legal = s.1.0; hex = s.1.1.0 }

pub not_read : (bytes : List ℕ) (e : SavedFault) → NotReadFor bytes e → Reads bytes (Err e)
not_read bytes NotJson h = h
not_read bytes BadShape h = absurd h
not_read bytes BadDigest h = absurd h
not_read bytes (BadState r) h = absurd h
not_read bytes NoMemory h = tt

pub not_json : (bytes : List ℕ) → (IsUtf8 bytes → read bytes ≡ None) → (d : Data) → IsJson bytes d → ⊥
not_json bytes none d h = none-some d (sym (none h.0) ∙ h.1)

pub unshaped : (bytes : List ℕ) (d : Data) → IsJson bytes d → saved_of d ≡ None → IsUnshaped bytes
unshaped bytes d json none = record { value = d; json = json; none = λ c t shape. none-some _ (sym none ∙ shaped d c t shape) }

pub says : (bytes : List ℕ) (d : Data) (c : Body) (t : List ℕ) → IsJson bytes d → saved_of d ≡ Some (c, (t, tt)) → Says bytes c t
says bytes d c t json h = record { value = d; json = json; shape = has_shape d c t h }

pub inner_is : (d : Data) (c : Body) → body_of d ≡ Some c → d ≡ body_json c
inner_is d c h = sym ((body_form.takes d c h).0)

pub inner_plain : (d : Data) (c : Body) → body_of d ≡ Some c → has_float d ≡ false
inner_plain d c h = body_plain d c (inner_is d c h)

digest_found : (d : Data) (c : Body) (t : List ℕ) → body_of d ≡ Some c → bytes_eq t (hex_digest (compact_text d)) ≡ true → t ≡ digest_of c
digest_found d c t h text = (bytes_eq-Decides t (hex_digest (compact_text d))).0 text ∙ ap (λ v. hex_digest (compact_text v)) (inner_is d c h)

pub bad_digest : (bytes : List ℕ) (whole d : Data) (c : Body) (t : List ℕ) → IsJson bytes whole → saved_of whole ≡ Some (c, (t, tt)) → body_of d ≡ Some c → bytes_eq t (hex_digest (compact_text d)) ≡ false → HasBadDigest bytes
bad_digest bytes whole d c t json shape inner other = record {
  body = c;
  digest = t;
  says = says bytes whole c t json shape;
  other = λ same. true≢false (sym ((bytes_eq-Decides t (hex_digest (compact_text d))).1 (same ∙ ap (λ v. hex_digest (compact_text v)) (sym (inner_is d c inner)))) ∙ other);
}

pub restored : (bytes : List ℕ) (whole d : Data) (c : Body) (t : List ℕ) → IsJson bytes whole → saved_of whole ≡ Some (c, (t, tt)) → body_of d ≡ Some c → bytes_eq t (hex_digest (compact_text d)) ≡ true → (answer : Result Saved SavedFault) → Restores (contents_of c) answer → Reads bytes answer
restored bytes whole d c t json shape inner text (Ok saved) h =
    let all = subst (Says bytes c) (digest_found d c t inner text) (says bytes whole c t json shape) in
    record { body = c; says = all; holds = h }
restored bytes whole d c t json shape inner text (Err NotJson) h = absurd h
restored bytes whole d c t json shape inner text (Err BadShape) h = absurd h
restored bytes whole d c t json shape inner text (Err BadDigest) h = absurd h
restored bytes whole d c t json shape inner text (Err (BadState r)) h =
    let all = subst (Says bytes c) (digest_found d c t inner text) (says bytes whole c t json shape) in
    record { body = c; says = all; index = h.0; refused = h.1 }
restored bytes whole d c t json shape inner text (Err NoMemory) h = tt

-- ---- saved and read

ok_err : {X Y : Type 0} {x : X} {y : Y} → Ok x ≡ Err y → ⊥
ok_err h = cc

ok_same : {X Y : Type 0} (r : Result X Y) (x y : X) → r ≡ Ok x → r ≡ Ok y → x ≡ y
ok_same r x y h k = let both = sym h ∙ k in cc

err_same : {X Y : Type 0} (r : Result X Y) (x y : Y) → r ≡ Err x → r ≡ Err y → x ≡ y
err_same r x y h k = let both = sym h ∙ k in cc

one_says : (bytes : List ℕ) (c other : Body) (t : List ℕ) (digest : List ℕ) → IsJson bytes (saved_json c t) → IsLegal (contents_of c) → is_digest t ≡ true → Says bytes other digest → (other ≡ c) × (digest ≡ t)
one_says bytes c other t digest json legal hex is =
    let value : is.value ≡ saved_json c t = same_Some _ _ (sym is.json.1 ∙ json.1) in
    let mine : saved_of (saved_json c t) ≡ Some (c, (t, tt)) = saved_form.again (c, (t, tt)) (legal, (hex, tt)) in
    let theirs : saved_of (saved_json c t) ≡ Some (other, (digest, tt)) = subst (λ d. saved_of d ≡ Some (other, (digest, tt))) value (shaped is.value other digest is.shape) in
    let both : (other, (digest, tt)) ≡ (c, (t, tt)) = same_Some _ _ (sym theirs ∙ mine) in
    (ap (λ p. p.0) both, ap (λ p. p.1.0) both)

-- what was written is read again
pub reads_back : (bytes : List ℕ) (m : PlainState) (version : ℕ) (tables : Tables) (caps : Caps) → let c = body_to_save m version tables caps in IsJson bytes (saved_json c (digest_of c)) → is_digest (digest_of c) ≡ true → IsLegal (contents_of c) → IsSound m → (answer : Result Saved SavedFault) → Reads bytes answer → ReadsBack m version tables caps answer
reads_back bytes m version tables caps json hex legal sound (Ok saved) h =
    let c = body_to_save m version tables caps in
    let same = one_says bytes c h.body (digest_of c) (digest_of h.body) json legal hex h.says in
    let held : Holds (contents_of c) saved = subst (λ x. Holds (contents_of x) saved) same.0 h.holds in
    (ok_same _ _ _ held.state sound, held.version, held.tables, held.caps)
reads_back bytes m version tables caps json hex legal sound (Err NotJson) h = absurd (h _ json)
reads_back bytes m version tables caps json hex legal sound (Err BadShape) h =
    let c = body_to_save m version tables caps in
    let value : h.value ≡ saved_json c (digest_of c) = same_Some _ _ (sym h.json.1 ∙ json.1) in
    absurd (h.none c (digest_of c) (record { json = sym value; legal = legal; hex = hex }))
reads_back bytes m version tables caps json hex legal sound (Err BadDigest) h =
    let c = body_to_save m version tables caps in
    let same = one_says bytes c h.body (digest_of c) h.digest json legal hex h.says in
    absurd (h.other (same.1 ∙ ap digest_of (sym same.0)))
reads_back bytes m version tables caps json hex legal sound (Err (BadState r)) h =
    let c = body_to_save m version tables caps in
    let same = one_says bytes c h.body (digest_of c) (digest_of h.body) json legal hex h.says in
    let refused = subst (λ x. built empty (acts_of (contents_of x).state) ≡ Err (h.index, r)) same.0 h.refused in
    absurd (ok_err (sym sound ∙ refused))
reads_back bytes m version tables caps json hex legal sound (Err NoMemory) h = refl

pub none_of : {X Y : Type 0} (f : X → Y) (o : Option X) (s : Option Y) → option_map f o ≡ s → o ≡ None → s ≡ None
none_of f o s h none = sym h ∙ ap (option_map f) none

pub some_of : {X Y : Type 0} (f : X → Y) (o : Option X) (s : Option Y) (x : X) → option_map f o ≡ s → o ≡ Some x → s ≡ Some (f x)
some_of f o s x h some = sym h ∙ ap (option_map f) some

pub if_some : {X : Type 0} (P : X → Type 0) (o : Option X) (x : X) → IfSome o P → o ≡ Some x → P x
if_some P o x h some = subst (λ r. IfSome r P) some h

-- ---- one answer

both_say : (bytes : List ℕ) (c other : Body) (t digest : List ℕ) → Says bytes c t → Says bytes other digest → (other ≡ c) × (digest ≡ t)
both_say bytes c other t digest mine theirs = one_says bytes c other t digest (subst (IsJson bytes) (sym mine.shape.json) mine.json) mine.shape.legal mine.shape.hex theirs

not_unshaped : (bytes : List ℕ) (c : Body) (t : List ℕ) → Says bytes c t → IsUnshaped bytes → ⊥
not_unshaped bytes c t is un = un.none c t (subst (λ d. HasShape d c t) (same_Some _ _ (sym is.json.1 ∙ un.json.1)) is.shape)

not_other : (bytes : List ℕ) (c : Body) → Says bytes c (digest_of c) → HasBadDigest bytes → ⊥
not_other bytes c is bad = let same = both_say bytes c bad.body (digest_of c) bad.digest is bad.says in bad.other (same.1 ∙ ap digest_of (sym same.0))

not_both : (bytes : List ℕ) (saved : Saved) (r : Reason) → IsSaved bytes saved → HasBadState bytes r → ⊥
not_both bytes saved r is bad =
    let same = both_say bytes is.body bad.body (digest_of is.body) (digest_of bad.body) is.says bad.says in
    let refused = subst (λ x. built empty (acts_of (contents_of x).state) ≡ Err (bad.index, r)) same.0 bad.refused in
    ok_err (sym is.holds.state ∙ refused)

pub one_answer : (bytes : List ℕ) (a b : Result Saved SavedFault) → Reads bytes a → Reads bytes b → (a ≢ Err NoMemory) → (b ≢ Err NoMemory) → SameAnswer a b
one_answer bytes (Err NoMemory) b h k memory other = absurd (memory refl)
one_answer bytes (Ok x) (Ok y) h k memory other =
    let same = both_say bytes h.body k.body (digest_of h.body) (digest_of k.body) h.says k.says in
    let held : Holds (contents_of h.body) y = subst (λ c. Holds (contents_of c) y) same.0 k.holds in
    (ok_same _ _ _ h.holds.state held.state, h.holds.version ∙ sym held.version, h.holds.tables ∙ sym held.tables, h.holds.caps ∙ sym held.caps)
one_answer bytes (Ok x) (Err NotJson) h k memory other = k _ h.says.json
one_answer bytes (Ok x) (Err BadShape) h k memory other = not_unshaped bytes _ _ h.says k
one_answer bytes (Ok x) (Err BadDigest) h k memory other = not_other bytes _ h.says k
one_answer bytes (Ok x) (Err (BadState r)) h k memory other = not_both bytes x r h k
one_answer bytes (Ok x) (Err NoMemory) h k memory other = other refl
one_answer bytes (Err NotJson) (Ok y) h k memory other = h _ k.says.json
one_answer bytes (Err NotJson) (Err NotJson) h k memory other = refl
one_answer bytes (Err NotJson) (Err BadShape) h k memory other = absurd (h _ k.json)
one_answer bytes (Err NotJson) (Err BadDigest) h k memory other = absurd (h _ k.says.json)
one_answer bytes (Err NotJson) (Err (BadState r)) h k memory other = absurd (h _ k.says.json)
one_answer bytes (Err NotJson) (Err NoMemory) h k memory other = absurd (other refl)
one_answer bytes (Err BadShape) (Ok y) h k memory other = not_unshaped bytes _ _ k.says h
one_answer bytes (Err BadShape) (Err NotJson) h k memory other = absurd (k _ h.json)
one_answer bytes (Err BadShape) (Err BadShape) h k memory other = refl
one_answer bytes (Err BadShape) (Err BadDigest) h k memory other = absurd (not_unshaped bytes _ _ k.says h)
one_answer bytes (Err BadShape) (Err (BadState r)) h k memory other = absurd (not_unshaped bytes _ _ k.says h)
one_answer bytes (Err BadShape) (Err NoMemory) h k memory other = absurd (other refl)
one_answer bytes (Err BadDigest) (Ok y) h k memory other = not_other bytes _ k.says h
one_answer bytes (Err BadDigest) (Err NotJson) h k memory other = absurd (k _ h.says.json)
one_answer bytes (Err BadDigest) (Err BadShape) h k memory other = absurd (not_unshaped bytes _ _ h.says k)
one_answer bytes (Err BadDigest) (Err BadDigest) h k memory other = refl
one_answer bytes (Err BadDigest) (Err (BadState r)) h k memory other = absurd (not_other bytes _ k.says h)
one_answer bytes (Err BadDigest) (Err NoMemory) h k memory other = absurd (other refl)
one_answer bytes (Err (BadState r)) (Ok y) h k memory other = not_both bytes y r k h
one_answer bytes (Err (BadState r)) (Err NotJson) h k memory other = absurd (k _ h.says.json)
one_answer bytes (Err (BadState r)) (Err BadShape) h k memory other = absurd (not_unshaped bytes _ _ h.says k)
one_answer bytes (Err (BadState r)) (Err BadDigest) h k memory other = absurd (not_other bytes _ h.says k)
one_answer bytes (Err (BadState r)) (Err (BadState q)) h k memory other =
    let same = both_say bytes h.body k.body (digest_of h.body) (digest_of k.body) h.says k.says in
    let theirs = subst (λ c. built empty (acts_of (contents_of c).state) ≡ Err (k.index, q)) same.0 k.refused in
    ap (λ x. BadState x) (ap (λ (p : ℕ × Reason). p.1) (err_same _ _ _ h.refused theirs))
one_answer bytes (Err (BadState r)) (Err NoMemory) h k memory other = absurd (other refl)
