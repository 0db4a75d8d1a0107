-- The chip side, as its core settles a run.
use Rattle.std.proofs.Common.{◌≡◌, ◌≢◌, ◌⊎◌, inl, inr, ◌≤◌, ◌<◌, ◌+◌, ◌^◌, ℕ, List, [], ◌∷◌, ◌++◌, length, IfOk, Ok, Err, refl, sym, ap, subst, ◌∙◌, arith}
use Rattle.std.proofs.lemmas.Bool.{cases_lt}
use Rattle.chip_core.specs.Chip.{IsChip}
use Rattle.net_types.specs.declared.table.Caps.{Caps}
use Rattle.std.specs.declared.result.Result.{Result}
use Rattle.core_laws.specs.Audience.{AudienceView}
use Rattle.core_laws.specs.Published.{CoreView, IsCore, IsPublished, PublishedView, journal_of}
use Rattle.core_laws.specs.Rounds.{HaveHeard, IsSettled}
use Rattle.journal_laws.proofs.RoundLaws.{len_push}
use Rattle.net_types.specs.declared.table.Tables.{Tables}
use Rattle.switch_model.specs.declared.act.Submission.{Submission}
use Rattle.switch_model.specs.declared.journal.Round.{Round}
use Rattle.switch_model.specs.Journal.{Journal, len}
use Rattle.switch_model.specs.Legal.{IsRun}
use Rattle.switch_model.specs.Round.{next_round}
use Rattle.switch_model.specs.Rows.{rows}
use Rattle.agent_shared.proofs.Marks.{told_sures}
use Rattle.agent_shared.specs.Views.{AreTablesOf, ground_of, side_of, sure_of}
use Rattle.shared_laws.proofs.DeskLaws.{next_has, run_has, version_fits}
use Rattle.shared_laws.specs.Ground.{GroundView, HasRoom, SideView, journal_at}

same_or_not : (a b : ℕ) → (a ≡ b) ⊎ (a ≢ b)
same_or_not a b =
    elim (cases_lt a b) [
      | inl under ↦ inr (λ e. omega (arith, under, e))
      | inr over ↦
          elim (cases_lt b a) [
            | inl under ↦ inr (λ e. omega (arith, under, e))
            | inr not_over ↦ inl (omega (arith, over, not_over))
          ]
    ]

sure_where : (old new : CoreView) → HaveHeard old new → (new.published.state.version ≡ old.published.state.version) ⊎ (new.published.state.version ≢ old.published.state.version) → sure_of new.audience.watches ≡ sure_of old.audience.watches
sure_where old new heard (inl same) = ap (λ (a : AudienceView). sure_of a.watches) (heard.stayed same)
sure_where old new heard (inr other) = told_sures new.published.state old.audience.watches new.audience.watches (heard.told other).watches

-- a round leaves which observers are sure
pub sure_stays : (old new : CoreView) → HaveHeard old new → sure_of new.audience.watches ≡ sure_of old.audience.watches
sure_stays old new heard = sure_where old new heard (same_or_not new.published.state.version old.published.state.version)

-- the side after a round of its core
pub side_settles : (old new : CoreView) (q : List Submission) (limit : ℕ) (s : SideView) → side_of old q limit ≡ s → IsSettled q old new → side_of new q limit ≡ record s { rounds = s.rounds ++ next_round (journal_at s.basis s.rounds) s.run ∷ [] }
side_settles old new q limit s is done =
    let opening : (journal_of new.published).opening ≡ (journal_of old.published).opening = ap (λ (j : Journal). j.opening) done.journal in
    let rounds : new.published.rounds ≡ old.published.rounds ++ next_round (journal_of old.published) q ∷ [] = ap (λ (j : Journal). j.rounds) done.journal in
    let sure = sure_stays old new done.heard in
    (λ i. record { basis = record { opening = opening i; limit = limit; sure = sure i }; run = q; rounds = rounds i })
    ∙ ap (λ (x : SideView). record x { rounds = x.rounds ++ next_round (journal_at x.basis x.rounds) x.run ∷ [] }) is

-- and where nothing was settled
pub side_stays : (old new : CoreView) (q : List Submission) (limit : ℕ) (s : SideView) → side_of old q limit ≡ s → new.published ≡ old.published → new.audience ≡ old.audience → side_of new q limit ≡ s
side_stays old new q limit s is published audience =
    (λ i. record { basis = ground_of (published i) limit (sure_of (audience i).watches); run = q; rounds = (published i).rounds }) ∙ is

-- what its core has published then is the journal of its rounds
pub side_published : (new : CoreView) (q : List Submission) (limit : ℕ) (s : SideView) (p : PublishedView) → side_of new q limit ≡ s → p ≡ new.published → journal_of p ≡ journal_at s.basis s.rounds
side_published new q limit s p is e = ap journal_of e ∙ ap (λ (x : SideView). journal_at x.basis x.rounds) is

-- how many entries the round has
pub side_size : (old new : CoreView) (q : List Submission) (limit k : ℕ) (s : SideView) → side_of old q limit ≡ s → IsSettled q old new → len (journal_of old.published) + k ≡ len (journal_of new.published) → length (next_round (journal_at s.basis s.rounds) s.run).entries ≡ k
side_size old new q limit k s is done e =
    let j : Journal = journal_of old.published in
    let r : Round = next_round j q in
    let more : len (journal_of new.published) ≡ len j + length r.entries = ap len done.journal ∙ len_push j r in
    let here : length r.entries ≡ k = omega (arith, e, more) in
    ap (λ (x : SideView). length (next_round (journal_at x.basis x.rounds) x.run).entries) (sym is) ∙ here

-- at least one
pub side_some : (old new : CoreView) (q : List Submission) (limit k : ℕ) → IsCore old → IsRun q → IsSettled q old new → len (journal_of old.published) + k ≡ len (journal_of new.published) → 1 ≤ k
side_some old new q limit k core is done e =
    let size = side_size old new q limit k (side_of old q limit) refl done e in
    omega (arith, size, next_has (journal_of old.published) q core.legal is)

-- the journal has room for a run within the limit
pub side_room : (old : CoreView) (q : List Submission) (limit : ℕ) (s : SideView) → side_of old q limit ≡ s → HasRoom s.basis → len (journal_at s.basis s.rounds) + length s.run ≤ s.basis.limit → len (journal_of old.published) + length q < 2 ^ 64
side_room old q limit s is room fits =
    let wide : HasRoom (side_of old q limit).basis = subst (λ (x : SideView). HasRoom x.basis) (sym is) room in
    let here : len (journal_of old.published) + length q ≤ limit = subst (λ (x : SideView). len (journal_at x.basis x.rounds) + length x.run ≤ x.basis.limit) (sym is) fits in
    omega (arith, wide, here)

-- and so has its version
pub side_version : (old : CoreView) (q : List Submission) (limit : ℕ) (s : SideView) → side_of old q limit ≡ s → IsCore old → IsPublished old.published → IsRun s.run → HasRoom s.basis → len (journal_at s.basis s.rounds) + length s.run ≤ s.basis.limit → old.published.state.version + 1 < 2 ^ 64
side_version old q limit s is core published run room fits =
    let wide : HasRoom (side_of old q limit).basis = subst (λ (x : SideView). HasRoom x.basis) (sym is) room in
    let here : len (journal_of old.published) + length q ≤ limit = subst (λ (x : SideView). len (journal_at x.basis x.rounds) + length x.run ≤ x.basis.limit) (sym is) fits in
    let run_here : IsRun q = subst (λ (x : SideView). IsRun x.run) (sym is) run in
    let fit = version_fits (side_of old q limit).basis old.published.rounds (length q) core.legal wide (run_has q run_here) here in
    subst (λ (v : ℕ). v + 1 < 2 ^ 64) (sym published.version) fit

-- the chip's tables show the rows of the side's journal
pub side_tables : (c : CoreView) (q : List Submission) (limit : ℕ) (s : SideView) (tables : Tables) → side_of c q limit ≡ s → IsCore c → IsPublished c.published → IsChip c.caps c.raw → tables ≡ c.raw → AreTablesOf s.basis s.rounds tables
side_tables c q limit s tables is core published chip e =
    let here : AreTablesOf (side_of c q limit).basis c.published.rounds c.raw = record {
      chip = subst (λ (k : Caps). IsChip k c.raw) (sym core.caps) chip;
      view = core.view ∙ ap rows published.plain;
    } in
    subst (λ (t : Tables). AreTablesOf s.basis s.rounds t) (sym e) (subst (λ (x : SideView). AreTablesOf x.basis x.rounds c.raw) is here)

pub side_copies : {E : Type 0} (c : CoreView) (q : List Submission) (limit : ℕ) (s : SideView) (r : Result Tables E) → side_of c q limit ≡ s → IsCore c → IsPublished c.published → IsChip c.caps c.raw → IfOk r (λ tables. tables ≡ c.raw) → IfOk r (AreTablesOf s.basis s.rounds)
side_copies c q limit s (Ok tables) is core published chip e = side_tables c q limit s tables is core published chip e
side_copies c q limit s (Err x) is core published chip e = tt

-- the same, in terms of a pass that has seen the side's rounds
pub tables_at : (g : GroundView) (x : SideView) (jseen : List Round) (tables : Tables) → x.basis ≡ g → jseen ≡ x.rounds → AreTablesOf x.basis x.rounds tables → AreTablesOf g jseen tables
tables_at g x jseen tables basis rounds are = subst (λ (y : GroundView). AreTablesOf y jseen tables) basis (subst (λ (l : List Round). AreTablesOf x.basis l tables) (sym rounds) are)
