-- What a check finds.
use Rattle.std.proofs.Common.{◌≡◌, ◌∙◌, ◌⊎◌, ℕ, List, [], Result, Ok, Err, IfOk, Option, None, Some, refl, inl, inr, Vec, Global, ap, sym}
use Rattle.std.specs.Prelude.{IfErr}
use Rattle.chip_core.specs.Chip.{IsImage, view_of}
use Rattle.chip_rows.specs.Difference.{first_differing}
use Rattle.core_laws.specs.Published.{CoreView, IsCore, IsPublished, PublishedView, journal_of}
use Rattle.net_types.specs.declared.table.Caps.{Caps}
use Rattle.net_types.specs.declared.table.Table.{Table}
use Rattle.net_types.specs.declared.table.Tables.{Tables}
use Rattle.offline_run.specs.Check.{IsDiffering, IsRefusedFor, IsSavedText, IsUntaken, OrNoMemory, TellsOf, TellsOfState, counts_line, ok_line}
use Rattle.offline_run.specs.declared.check.CheckFault.{CheckFault}
use Rattle.offline_run.specs.declared.check.CheckFault.TheVariants.{Refused, NoMemory}
use Rattle.run_outcome.specs.declared.refusal.SavedRefusal.TheVariants.{NotJson, BadShape, BadDigest, BadState, BadRows, ChipDiffers}
use Rattle.saved_state.specs.Contents.{Contents}
use Rattle.saved_state.specs.declared.saved.Saved.{Saved}
use Rattle.saved_state.specs.Reading.{IsSaved}
use Rattle.switch_model.specs.declared.record.Totals.{Totals}
use Rattle.switch_model.specs.Journal.{Journal, fold, version_of}
use Rattle.switch_model.specs.PlainState.{PlainState}
use Rattle.switch_model.specs.Rows.{rows}
use Rattle.switch_model.specs.Totals.{totals}
use Rattle.switch_state.specs.Plain.{plain}
use Rattle.switch_state.specs.StateView.{StateView}

-- the line with a state's version and its counts
pub state_told : (items : List ℕ) (version : ℕ) (counts : Totals) (s : StateView) → version ≡ s.version → counts ≡ totals (plain s) → items ≡ counts_line version counts → items ≡ ok_line s.version (plain s)
state_told items version counts s version_is counts_is told = told ∙ ap (λ (v : ℕ). counts_line v counts) version_is ∙ ap (counts_line s.version) counts_is

-- what is published is what the journal leads to
pub core_told : (items : List ℕ) (p q : PublishedView) (s : StateView) → q ≡ p → IsPublished q → s ≡ q.state → items ≡ ok_line s.version (plain s) → items ≡ ok_line (version_of (journal_of p)) (fold (journal_of p))
core_told items p q s same is state told =
    told
    ∙ ap (λ (t : StateView). ok_line t.version (plain t)) state
    ∙ ap (λ (v : ℕ). ok_line v (plain q.state)) is.version
    ∙ ap (ok_line (version_of (journal_of q))) is.plain
    ∙ ap (λ (o : PublishedView). ok_line (version_of (journal_of o)) (fold (journal_of o))) same

-- and the chip shows its rows
pub core_shown : (c : CoreView) (q : PublishedView) → IsCore c → q ≡ c.published → IsPublished q → view_of c.raw ≡ rows (fold (journal_of c.published))
core_shown c q core same is =
    core.view ∙ ap (λ (o : PublishedView). rows (plain o.state)) (sym same) ∙ ap rows is.plain ∙ ap (λ (o : PublishedView). rows (fold (journal_of o))) same

-- a journal with no rounds leads to what it begins with
pub line_told : (items : List ℕ) (j : Journal) (m : PlainState) (version : ℕ) (caps : Caps) → j ≡ record { opening = record { state = m; version = version; caps = caps }; rounds = [] } → items ≡ ok_line (version_of j) (fold j) → items ≡ ok_line version m
line_told items j m version caps is told = told ∙ ap (λ (k : Journal). ok_line (version_of k) (fold k)) is

ok_err : {A E : Type 0} (x : A) (e : E) → Ok x ≡ Err e → ⊥
ok_err x e is = cc

neither : {A E : Type 0} (x : A) (d e : E) → (Ok x ≡ Err d) ⊎ (Ok x ≡ Err e) → ⊥
neither x d e (inl is) = ok_err x d is
neither x d e (inr is) = ok_err x e is

-- where a difference would have been told, and none was, there is none
pub none_differs : {A E : Type 0} (o : Option Table) (x : A) (differs : Table → E) (other : E) → ((t : Table) → o ≡ Some t → (Ok x ≡ Err (differs t)) ⊎ (Ok x ≡ Err other)) → o ≡ None
none_differs None x differs other told = refl
none_differs (Some t) x differs other told = absurd (neither x (differs t) other (told t refl))

-- of a chip that was made of the tables
pub state_tells : (r : Result (Vec ℕ Global) CheckFault) (caps : Caps) (tables raw : Tables) (version : ℕ) (m : PlainState) → IsImage caps tables → raw ≡ tables → IfOk r (λ l. l.items ≡ ok_line version m) → IfOk r (λ l. view_of raw ≡ rows m) → IfOk r (λ l. first_differing (view_of raw) (rows m) ≡ None) → IfOk r (λ l. TellsOfState caps tables version m l.items)
state_tells (Ok l) caps tables raw version m image made told shown alike = record { image = image; shown = ap view_of (sym made) ∙ shown; alike = ap (λ (x : Tables). first_differing (view_of x) (rows m)) (sym made) ∙ alike; is = told }
state_tells (Err e) caps tables raw version m image made told shown alike = tt

pub state_untaken : (r : Result (Vec ℕ Global) CheckFault) (caps : Caps) (tables raw : Tables) (m : PlainState) → IsImage caps tables → raw ≡ tables → IfErr r (OrNoMemory (IsDiffering raw m)) → IfErr r (OrNoMemory (IsUntaken caps tables m))
state_untaken (Ok l) caps tables raw m image made why = tt
state_untaken (Err NoMemory) caps tables raw m image made why = tt
state_untaken (Err (Refused (ChipDiffers t))) caps tables raw m image made why = (image, ap (λ (x : Tables). first_differing (view_of x) (rows m)) (sym made) ∙ why)
state_untaken (Err (Refused NotJson)) caps tables raw m image made why = absurd why
state_untaken (Err (Refused BadShape)) caps tables raw m image made why = absurd why
state_untaken (Err (Refused BadDigest)) caps tables raw m image made why = absurd why
state_untaken (Err (Refused (BadState reason))) caps tables raw m image made why = absurd why
state_untaken (Err (Refused BadRows)) caps tables raw m image made why = absurd why

-- what was read of a saved text
contents_in : Saved → Contents
contents_in saved = record { caps = saved.caps; tables = saved.tables; state = plain saved.state; version = saved.state.version }

text_in : (bytes : List ℕ) (saved : Saved) → IsSaved bytes saved → IsSavedText bytes (contents_in saved)
unfolding contents_in
text_in bytes saved is = record { body = is.body; says = is.says; built = is.holds.state; version = is.holds.version; caps = is.holds.caps; tables = is.holds.tables }

pub text_tells : (r : Result (Vec ℕ Global) CheckFault) (bytes : List ℕ) (saved : Saved) → IsSaved bytes saved → IfOk r (λ l. TellsOfState saved.caps saved.tables saved.state.version (plain saved.state) l.items) → IfOk r (λ l. TellsOf bytes l.items)
unfolding contents_in
text_tells (Ok l) bytes saved is tells = record { contents = contents_in saved; taken = record { text = text_in bytes saved is; image = tells.image; shown = tells.shown; alike = tells.alike }; is = tells.is }
text_tells (Err e) bytes saved is tells = tt

pub text_refused : (r : Result (Vec ℕ Global) CheckFault) (bytes : List ℕ) (saved : Saved) → IsSaved bytes saved → IfErr r (OrNoMemory (IsUntaken saved.caps saved.tables (plain saved.state))) → IfErr r (OrNoMemory (IsRefusedFor bytes))
unfolding contents_in
text_refused (Ok l) bytes saved is why = tt
text_refused (Err NoMemory) bytes saved is why = tt
text_refused (Err (Refused BadRows)) bytes saved is why = record { contents = contents_in saved; text = text_in bytes saved is; none = why }
text_refused (Err (Refused (ChipDiffers t))) bytes saved is why = record { contents = contents_in saved; text = text_in bytes saved is; image = why.0; differs = why.1 }
text_refused (Err (Refused NotJson)) bytes saved is why = absurd why
text_refused (Err (Refused BadShape)) bytes saved is why = absurd why
text_refused (Err (Refused BadDigest)) bytes saved is why = absurd why
text_refused (Err (Refused (BadState reason))) bytes saved is why = absurd why
