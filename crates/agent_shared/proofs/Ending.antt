-- What the end of an agent gives.
use Rattle.std.proofs.Common.{◌≡◌, ◌⊎◌, ◌≤◌, ℕ, true, List, [], ◌++◌, length, All, EachIndex, ap, sym, ◌∙◌, subst}
use Rattle.std.proofs.lemmas.List.Elements.{All-weaker}
use Rattle.std.specs.List.{AllByRecursion}
use Rattle.chip_core.specs.Chip.{view_of}
use Rattle.core_laws.proofs.AudienceLaws.{all_so, latest_is}
use Rattle.core_laws.specs.Audience.{IsLatest, IsUpToDate}
use Rattle.net_types.specs.declared.table.Tables.{Tables}
use Rattle.observers.specs.Watch.{Watch}
use Rattle.switch_model.specs.Rows.{rows}
use Rattle.switch_state.specs.Plain.{plain}
use Rattle.keyed.specs.Prefix.{IsPrefix}
use Rattle.core_laws.specs.Published.{CoreView, IsCore, IsPublished, PublishedView, journal_of}
use Rattle.switch_model.specs.declared.act.Submission.{Submission}
use Rattle.switch_model.specs.Journal.{Journal, fold, own, strip}
use Rattle.turn_book.specs.Closing.{IsCountedOnce}
use Rattle.turn_book.specs.Lists.{AreNumbered}
use Rattle.turn_book.specs.Passes.{Book, IsPassOf}
use Rattle.shared_laws.specs.Callers.{Seen}
use Rattle.shared_laws.specs.Closing.{Closes}
use Rattle.shared_laws.specs.Ground.{DeskView, GroundView, IsDesk, SideView, journal_at}

-- each pass is one of so many
pub all_callers : (b : Book GroundView) (passes : List Seen) (n : ℕ) → n ≡ b.callers → All (λ p. IsPassOf b p) passes → All (λ p. p.callers ≡ n) passes
all_callers b passes n e all = All-weaker (λ (p : Seen). IsPassOf b p) (λ (p : Seen). p.callers ≡ n) (λ p of. of.callers ∙ sym e) passes all

-- the journal of the rounds is the one that the core has published
pub journal_is : (g : GroundView) (d : DeskView) (s : SideView) (p : PublishedView) → d.basis ≡ g → s.basis ≡ g → s.rounds ≡ d.rounds → s.basis.opening ≡ (journal_of p).opening → s.rounds ≡ p.rounds → journal_at d.basis d.rounds ≡ journal_of p
journal_is g d s p desk side rounds opening published =
    let o : d.basis.opening ≡ (journal_of p).opening = ap (λ (x : GroundView). x.opening) (desk ∙ sym side) ∙ opening in
    let r : d.rounds ≡ p.rounds = sym rounds ∙ published in
    λ i. record { opening = o i; rounds = r i }

-- what is left when the book is closed, in terms of what is published
pub closes : (b b' : Book GroundView) (passes passes' : List Seen) (d : DeskView) (j : Journal) (waiting : List Submission) → b ≡ b' → passes ≡ passes' → d.basis ≡ b.opening → IsDesk d → d.sent ≡ strip (journal_at d.basis d.rounds) ++ waiting → journal_at d.basis d.rounds ≡ j
    → All (λ p. IsPrefix p.seen d.sent) passes → All (λ p. IsPrefix p.jseen d.rounds) passes → All (λ p. p.mine ≡ own p.number d.sent) passes → ((i : ℕ) → AreNumbered (λ s. s.seq) (own i d.sent)) → ((i : ℕ) → b.callers ≤ i → own i d.sent ≡ []) → EachIndex d.rounds (λ n. IsCountedOnce passes n)
    → Closes b' passes' (strip j ++ waiting) j
closes b b' passes passes' d j waiting same seats basis is sent journal seen jseen mine numbered others once =
    let here : Closes b passes d.sent (journal_at d.basis d.rounds) = record {
      opening = ap (λ (x : GroundView). x.opening) basis;
      may_come = is.so_far.may_come;
      few = subst (λ (x : GroundView). length d.sent ≤ x.limit) basis is.so_far.few;
      seen = seen;
      jseen = jseen;
      mine = mine;
      numbered = numbered;
      no_others = others;
      counted_once = once;
    } in
    let all : d.sent ≡ strip j ++ waiting = sent ∙ ap (λ (x : Journal). strip x ++ waiting) journal in
    subst (λ (x : Journal). Closes b' passes' (strip j ++ waiting) x) journal
    (subst (λ (l : List Submission). Closes b' passes' l (journal_at d.basis d.rounds)) all
    (subst (λ (l : List Seen). Closes b' l d.sent (journal_at d.basis d.rounds)) seats
    (subst (λ (x : Book GroundView). Closes x passes d.sent (journal_at d.basis d.rounds)) same here)))

-- the chip shows the rows of the state that the published journal gives
pub closed_chip : (c : CoreView) (p : PublishedView) (raw : Tables) → IsCore c → IsPublished c.published → p ≡ c.published → raw ≡ c.raw → view_of raw ≡ rows (fold (journal_of p))
closed_chip c p raw is published same e =
    let plain_is : rows (plain c.published.state) ≡ rows (fold (journal_of c.published)) = ap rows published.plain in
    let back : rows (fold (journal_of c.published)) ≡ rows (fold (journal_of p)) = ap (λ (x : PublishedView). rows (fold (journal_of x))) (sym same) in
    ap view_of e ∙ (is.view ∙ (plain_is ∙ back))

-- each observer that is sure, or never refused, is at the end of the published journal
pub closed_latest : (c : CoreView) (p : PublishedView) (watches : List Watch) → IsCore c → IsPublished c.published → p ≡ c.published → watches ≡ c.audience.watches
    → AllByRecursion (λ w. (w.sure ≡ true) ⊎ (w.refusals ≡ 0) → IsLatest (journal_of p) w) watches
closed_latest c p watches is published same seen =
    let here : AllByRecursion (λ w. (w.sure ≡ true) ⊎ (w.refusals ≡ 0) → IsLatest (journal_of c.published) w) c.audience.watches =
    all_so (IsUpToDate c.published.state) (λ (w : Watch). (w.sure ≡ true) ⊎ (w.refusals ≡ 0) → IsLatest (journal_of c.published) w) c.audience.watches (λ w at which. latest_is c.published w published which at) is.heard.latest in
    subst (λ (x : PublishedView). AllByRecursion (λ w. (w.sure ≡ true) ⊎ (w.refusals ≡ 0) → IsLatest (journal_of x) w) watches) (sym same)
    (subst (λ (l : List Watch). AllByRecursion (λ w. (w.sure ≡ true) ⊎ (w.refusals ≡ 0) → IsLatest (journal_of c.published) w) l) (sym seen) here)
