-- What an attempt to write makes of a core: the laws of a core, in the words of the calls that are made.
use Rattle.std.proofs.Common.{◌≡◌, ◌≤◌, ◌<◌, ◌+◌, ◌*◌, ◌^◌, ℕ, IfNone, IfSome, Option, Some, None, List, length, refl, sym, ap, subst, ◌∙◌}
use Rattle.std.specs.Prelude.{Result, Ok, Err, OnErr}
use Rattle.std.specs.List.{AllByRecursion}
use Rattle.chip_core.specs.Changes.{AreOldRows, changed_rows}
use Rattle.chip_core.specs.Chip.{view_of}
use Rattle.chip_core.specs.declared.changes.RowChanges.{RowChanges}
use Rattle.net_types.specs.Closed.{IsClosed}
use Rattle.net_types.specs.declared.table.Caps.{Caps}
use Rattle.net_types.specs.declared.table.Table.{Table}
use Rattle.net_types.specs.declared.table.Tables.{Tables}
use Rattle.switch_model.specs.declared.act.Submission.{Submission}
use Rattle.switch_model.specs.declared.journal.Round.{Round}
use Rattle.switch_model.specs.declared.journal.RoundKind.{RoundKind}
use Rattle.switch_model.specs.declared.journal.RoundKind.TheVariants.{Whole, One}
use Rattle.switch_model.specs.Journal.{len}
use Rattle.switch_model.specs.Legal.{IsRun}
use Rattle.switch_model.specs.Rows.{rows}
use Rattle.switch_state.proofs.Following.{follows_third}
use Rattle.switch_state.specs.Follows.{Follows}
use Rattle.switch_state.specs.Plain.{plain}
use Rattle.switch_state.specs.StateView.{StateView}
use Rattle.core_laws.proofs.AudienceLaws.{all_so}
use Rattle.core_laws.proofs.ChangeLaws.{closed_there, old_there}
use Rattle.core_laws.proofs.CoreLaws.{done_core, done_whole, kept_core, kept_whole, undone_core, undone_whole}
use Rattle.core_laws.proofs.OneLaws.{one_kept_core, one_kept_made, one_ok, one_ok_core, one_refused, one_refused_core}
use Rattle.core_laws.specs.Audience.{AudienceView, WereBegun, WereTold}
use Rattle.core_laws.specs.Published.{CoreView, IsCore, IsPublished, PublishedView, journal_of}
use Rattle.core_published.specs.Refusals.{AreRefusals}
use Rattle.core_published.specs.declared.refusal.Refusals.{Refusals}
use Rattle.core_laws.specs.Rounds.{IsAttempt, IsOne, IsRefusal, IsTooMuch, IsWhole, tried_round}
use Rattle.agent_core.specs.Written.{WasUndone, WasWritten}

-- an attempt of a core, in terms of the core's parts
at_parts : (kind : RoundKind) (q : List Submission) (v old : CoreView) (next share : PublishedView) (changes : RowChanges) → v ≡ old → IsAttempt (tried_round kind old.published q) old.published next share (Some changes) → IsAttempt (tried_round kind v.published q) v.published next share (Some changes)
at_parts kind q v old next share changes is attempt = subst (λ (x : CoreView). IsAttempt (tried_round kind x.published q) x.published next share (Some changes)) (sym is) attempt

told_at : (s : StateView) (p : PublishedView) (a b : AudienceView) → s ≡ p.state → WereTold s a b → WereTold p.state a b
told_at s p a b is told = subst (λ (x : StateView). WereTold x a b) is told

pub begun_at : (s t : StateView) (before a : AudienceView) → s ≡ t → WereBegun s before a → WereBegun t before a
begun_at s t before a is begun = subst (λ (x : StateView). WereBegun x before a) is begun

-- an attempt in an arm of its changes
pub attempt_at : (r : Round) (old next share : PublishedView) (changes arm : Option RowChanges) → changes ≡ arm → IsAttempt r old next share changes → IsAttempt r old next share arm
attempt_at r old next share changes arm is attempt = subst (λ (x : Option RowChanges). IsAttempt r old next share x) is attempt

-- an attempt beside what a core had published when it was opened
pub attempt_from : (kind : RoundKind) (q : List Submission) (v old : CoreView) (next share : PublishedView) (changes : Option RowChanges) → v ≡ old → IsAttempt (tried_round kind v.published q) v.published next share changes → IsAttempt (tried_round kind old.published q) old.published next share changes
attempt_from kind q v old next share changes is attempt = subst (λ (x : CoreView). IsAttempt (tried_round kind x.published q) x.published next share changes) is attempt

-- what was published is what came next

pub core_with : (raw : Tables) (caps : Caps) (writes : ℕ) (p next : PublishedView) (b : AudienceView) → p ≡ next → IsCore (record { raw = raw; caps = caps; writes = writes; published = next; audience = b }) → IsCore (record { raw = raw; caps = caps; writes = writes; published = p; audience = b })
core_with raw caps writes p next b is core = subst (λ (x : PublishedView). IsCore (record { raw = raw; caps = caps; writes = writes; published = x; audience = b })) (sym is) core

pub whole_with : (q : List Submission) (old : CoreView) (raw : Tables) (caps : Caps) (writes : ℕ) (p next share : PublishedView) (b : AudienceView) → p ≡ next → share ≡ next → IsWhole q old (record { raw = raw; caps = caps; writes = writes; published = next; audience = b }) → IsWhole q old (record { raw = raw; caps = caps; writes = writes; published = p; audience = b }) × (share ≡ p)
whole_with q old raw caps writes p next share b is shared done = (subst (λ (x : PublishedView). IsWhole q old (record { raw = raw; caps = caps; writes = writes; published = x; audience = b })) (sym is) done, shared ∙ sym is)

pub one_with : (q : List Submission) (old : CoreView) (raw : Tables) (caps : Caps) (writes : ℕ) (p next share : PublishedView) (b : AudienceView) → p ≡ next → share ≡ next → IsOne q old (record { raw = raw; caps = caps; writes = writes; published = next; audience = b }) → IsOne q old (record { raw = raw; caps = caps; writes = writes; published = p; audience = b }) × (share ≡ p)
one_with q old raw caps writes p next share b is shared done = (subst (λ (x : PublishedView). IsOne q old (record { raw = raw; caps = caps; writes = writes; published = x; audience = b })) (sym is) done, shared ∙ sym is)

-- a core as it was when it was opened

pub whole_from : (q : List Submission) (v old new : CoreView) → v ≡ old → IsWhole q v new → IsWhole q old new
whole_from q v old new is done = subst (λ (x : CoreView). IsWhole q x new) is done

pub too_much_from : (q : List Submission) (v old new : CoreView) → v ≡ old → IsTooMuch q v new → IsTooMuch q old new
too_much_from q v old new is tried = subst (λ (x : CoreView). IsTooMuch q x new) is tried

pub one_from : (q : List Submission) (v old new : CoreView) → v ≡ old → IsOne q v new → IsOne q old new
one_from q v old new is done = subst (λ (x : CoreView). IsOne q x new) is done

pub room_at : (v old : CoreView) (n : ℕ) → v ≡ old → len (journal_of old.published) + n < 2 ^ 64 → len (journal_of v.published) + n < 2 ^ 64
room_at v old n is room = subst (λ (x : CoreView). len (journal_of x.published) + n < 2 ^ 64) (sym is) room

pub version_at : (v old : CoreView) → v ≡ old → old.published.state.version + 1 < 2 ^ 64 → v.published.state.version + 1 < 2 ^ 64
version_at v old is room = subst (λ (x : CoreView). x.published.state.version + 1 < 2 ^ 64) (sym is) room

-- what was written, in an arm of the answer

pub written_at : (P : Type 0) (full : Option Table) → full ≡ None → IfNone full P → P
written_at P full none written = subst (λ (x : Option Table). IfNone x P) none written

pub undone_at : (P : Table → Type 0) (full : Option Table) (t : Table) → full ≡ Some t → IfSome full P → P t
undone_at P full t some undone = subst (λ (x : Option Table). IfSome x P) some undone

-- a core whose chip and observers are as before

pub kept_as : {A : Type 0} (raw : A → Tables) (caps : A → Caps) (writes : A → ℕ) (x y : A) (p : PublishedView) (a b : AudienceView) → x ≡ y → a ≡ b → IsCore (record { raw = raw y; caps = caps y; writes = writes y; published = p; audience = b }) → IsCore (record { raw = raw x; caps = caps x; writes = writes x; published = p; audience = a })
kept_as {A = A} raw caps writes x y p a b same heard core =
    subst (λ (z : A). IsCore (record { raw = raw z; caps = caps z; writes = writes z; published = p; audience = a })) (sym same)
    (subst (λ (k : AudienceView). IsCore (record { raw = raw y; caps = caps y; writes = writes y; published = p; audience = k })) (sym heard) core)

pub view_as : {A : Type 0} (raw : A → Tables) (caps : A → Caps) (writes : A → ℕ) (x y : A) (p : PublishedView) (a b : AudienceView) (old : CoreView) → x ≡ y → a ≡ b → record { raw = raw y; caps = caps y; writes = writes y; published = p; audience = b } ≡ old → record { raw = raw x; caps = caps x; writes = writes x; published = p; audience = a } ≡ old
view_as {A = A} raw caps writes x y p a b old same heard is =
    subst (λ (z : A). record { raw = raw z; caps = caps z; writes = writes z; published = p; audience = a } ≡ old) (sym same)
    (subst (λ (k : AudienceView). record { raw = raw y; caps = caps y; writes = writes y; published = p; audience = k } ≡ old) (sym heard) is)

pub refused_with : {T E P : Type 0} (r : Result T E) → P → OnErr r P
refused_with (Ok x) p = tt
refused_with (Err e) p = p

-- what a write asks for

pub old_rows : (kind : RoundKind) (q : List Submission) (v old : CoreView) (next share : PublishedView) (changes : RowChanges) → v ≡ old → IsCore v → IsAttempt (tried_round kind old.published q) old.published next share (Some changes) → AreOldRows changes (view_of v.raw)
old_rows kind q v old next share changes is core attempt =
    old_there (rows (plain v.published.state)) (rows (plain next.state)) v.raw changes core.view (at_parts kind q v old next share changes is attempt).listed.rows

pub closed_rows : (kind : RoundKind) (q : List Submission) (v old : CoreView) (next share : PublishedView) (changes : RowChanges) → v ≡ old → IsCore v → IsAttempt (tried_round kind old.published q) old.published next share (Some changes) → IsClosed (changed_rows changes (view_of v.raw))
closed_rows kind q v old next share changes is core attempt =
    closed_there (rows (plain v.published.state)) (rows (plain next.state)) v.raw changes core.view (at_parts kind q v old next share changes is attempt).listed.rows

pub kept_followed : (kind : RoundKind) (q : List Submission) (v old : CoreView) (next share : PublishedView) (changes : RowChanges) (s : StateView) → v ≡ old → IsCore v → IsAttempt (tried_round kind old.published q) old.published next share (Some changes) → s ≡ next.state → AllByRecursion (λ k. Follows k s) v.audience.kept
kept_followed kind q v old next share changes s is core attempt same =
    let follows : Follows v.published.state s = subst (λ (x : StateView). Follows v.published.state x) (sym same) (at_parts kind q v old next share changes is attempt).round.follows in
    all_so (λ k. Follows k v.published.state) (λ k. Follows k s) v.audience.kept (λ k before. follows_third before follows) core.heard.follows

-- the whole run

pub whole_kept_core : (q : List Submission) (v old : CoreView) (next share : PublishedView) → v ≡ old → IsCore v → IsPublished v.published → IsRun q → IsAttempt (tried_round Whole old.published q) old.published next share None → IsCore (record { raw = v.raw; caps = v.caps; writes = v.writes; published = next; audience = v.audience })
whole_kept_core q v old next share is core published run attempt =
    let a : IsAttempt (tried_round Whole v.published q) v.published next share None = subst (λ (x : CoreView). IsAttempt (tried_round Whole x.published q) x.published next share None) (sym is) attempt in
    kept_core q v next core published run a.round (a.kept refl)

pub whole_kept : (q : List Submission) (v old : CoreView) (next share : PublishedView) → v ≡ old → IsCore v → IsPublished v.published → IsAttempt (tried_round Whole old.published q) old.published next share None → IsWhole q old (record { raw = v.raw; caps = v.caps; writes = v.writes; published = next; audience = v.audience })
whole_kept q v old next share is core published attempt =
    let a : IsAttempt (tried_round Whole v.published q) v.published next share None = subst (λ (x : CoreView). IsAttempt (tried_round Whole x.published q) x.published next share None) (sym is) attempt in
    subst (λ (x : CoreView). IsWhole q x (record { raw = v.raw; caps = v.caps; writes = v.writes; published = next; audience = v.audience })) is (kept_whole q v next core published a.round (a.kept refl))

pub whole_done_core : (q : List Submission) (v old : CoreView) (next share : PublishedView) (changes : RowChanges) (s : StateView) (raw : Tables) (caps : Caps) (writes : ℕ) (b : AudienceView) → v ≡ old → IsCore v → IsPublished v.published → IsPublished next → IsRun q → IsAttempt (tried_round Whole old.published q) old.published next share (Some changes) →
    s ≡ next.state → caps ≡ v.caps → WasWritten changes s v.caps v.raw raw v.writes writes v.audience b → IsCore (record { raw = raw; caps = caps; writes = writes; published = next; audience = b })
whole_done_core q v old next share changes s raw caps writes b is core published new run attempt same caps_is written =
    let a = at_parts Whole q v old next share changes is attempt in
    done_core q v next changes raw caps writes b core published new run a.round a.listed written.fits written.view caps_is (told_at s next v.audience b same written.told)

pub whole_done : (q : List Submission) (v old : CoreView) (next share : PublishedView) (changes : RowChanges) (s : StateView) (raw : Tables) (caps : Caps) (writes : ℕ) (b : AudienceView) → v ≡ old → IsCore v → IsAttempt (tried_round Whole old.published q) old.published next share (Some changes) →
    s ≡ next.state → caps ≡ v.caps → WasWritten changes s v.caps v.raw raw v.writes writes v.audience b → IsWhole q old (record { raw = raw; caps = caps; writes = writes; published = next; audience = b })
whole_done q v old next share changes s raw caps writes b is core attempt same caps_is written =
    let a = at_parts Whole q v old next share changes is attempt in
    subst (λ (x : CoreView). IsWhole q x (record { raw = raw; caps = caps; writes = writes; published = next; audience = b })) is
    (done_whole q v next changes raw caps writes b core a.round a.listed written.fits caps_is written.writes (told_at s next v.audience b same written.told))

pub undone_is_core : (t : Table) (changes : RowChanges) (v : CoreView) (raw : Tables) (caps : Caps) (writes : ℕ) (b : AudienceView) → IsCore v → caps ≡ v.caps → WasUndone t changes v.caps v.raw raw v.writes writes v.audience b → IsCore (record { raw = raw; caps = caps; writes = writes; published = v.published; audience = b })
undone_is_core t changes v raw caps writes b core caps_is undone =
    subst (λ (x : AudienceView). IsCore (record { raw = raw; caps = caps; writes = writes; published = v.published; audience = x })) (sym undone.audience) (undone_core v raw caps writes core undone.raw caps_is)

pub whole_undone : (t : Table) (q : List Submission) (v old : CoreView) (next share : PublishedView) (changes : RowChanges) (raw : Tables) (caps : Caps) (writes : ℕ) (b : AudienceView) → v ≡ old → IsCore v → IsAttempt (tried_round Whole old.published q) old.published next share (Some changes) →
    caps ≡ v.caps → WasUndone t changes v.caps v.raw raw v.writes writes v.audience b → IsTooMuch q old (record { raw = raw; caps = caps; writes = writes; published = v.published; audience = b })
whole_undone t q v old next share changes raw caps writes b is core attempt caps_is undone =
    let a = at_parts Whole q v old next share changes is attempt in
    subst (λ (x : AudienceView). IsTooMuch q old (record { raw = raw; caps = caps; writes = writes; published = v.published; audience = x })) (sym undone.audience)
    (subst (λ (x : CoreView). IsTooMuch q x (record { raw = raw; caps = caps; writes = writes; published = v.published; audience = v.audience })) is
    (undone_whole q v next changes t raw caps writes core a.round a.listed undone.full undone.raw caps_is undone.writes))

-- the first of a run by itself

pub one_kept_is_core : (q : List Submission) (v old : CoreView) (next share : PublishedView) → v ≡ old → IsCore v → IsPublished v.published → length q ≡ 1 → IsAttempt (tried_round One old.published q) old.published next share None → IsCore (record { raw = v.raw; caps = v.caps; writes = v.writes; published = next; audience = v.audience })
one_kept_is_core q v old next share is core published single attempt =
    let a : IsAttempt (tried_round One v.published q) v.published next share None = subst (λ (x : CoreView). IsAttempt (tried_round One x.published q) x.published next share None) (sym is) attempt in
    one_kept_core q v next single core published a.round (a.kept refl)

pub one_kept_is : (q : List Submission) (v old : CoreView) (next share : PublishedView) → v ≡ old → length q ≡ 1 → IsAttempt (tried_round One old.published q) old.published next share None → IsOne q old (record { raw = v.raw; caps = v.caps; writes = v.writes; published = next; audience = v.audience })
one_kept_is q v old next share is single attempt =
    let a : IsAttempt (tried_round One v.published q) v.published next share None = subst (λ (x : CoreView). IsAttempt (tried_round One x.published q) x.published next share None) (sym is) attempt in
    subst (λ (x : CoreView). IsOne q x (record { raw = v.raw; caps = v.caps; writes = v.writes; published = next; audience = v.audience })) is (one_kept_made q v next single a.round (a.kept refl))

pub one_done_core : (q : List Submission) (v old : CoreView) (next share : PublishedView) (changes : RowChanges) (s : StateView) (raw : Tables) (caps : Caps) (writes : ℕ) (b : AudienceView) → v ≡ old → IsCore v → IsPublished v.published → IsPublished next → length q ≡ 1 → IsAttempt (tried_round One old.published q) old.published next share (Some changes) →
    s ≡ next.state → caps ≡ v.caps → WasWritten changes s v.caps v.raw raw v.writes writes v.audience b → IsCore (record { raw = raw; caps = caps; writes = writes; published = next; audience = b })
one_done_core q v old next share changes s raw caps writes b is core published new single attempt same caps_is written =
    let a = at_parts One q v old next share changes is attempt in
    one_ok_core q v next changes raw caps writes b single core published new a.round a.listed written.fits written.view caps_is (told_at s next v.audience b same written.told)

pub one_done_is : (q : List Submission) (v old : CoreView) (next share : PublishedView) (changes : RowChanges) (s : StateView) (raw : Tables) (caps : Caps) (writes : ℕ) (b : AudienceView) → v ≡ old → IsCore v → length q ≡ 1 → IsAttempt (tried_round One old.published q) old.published next share (Some changes) →
    s ≡ next.state → caps ≡ v.caps → WasWritten changes s v.caps v.raw raw v.writes writes v.audience b → IsOne q old (record { raw = raw; caps = caps; writes = writes; published = next; audience = b })
one_done_is q v old next share changes s raw caps writes b is core single attempt same caps_is written =
    let a = at_parts One q v old next share changes is attempt in
    subst (λ (x : CoreView). IsOne q x (record { raw = raw; caps = caps; writes = writes; published = next; audience = b })) is
    (one_ok q v next changes raw caps writes b single core a.round a.listed written.fits caps_is written.writes (told_at s next v.audience b same written.told))

pub refusals_from : (q : List Submission) (v old : CoreView) (r : Refusals) → v ≡ old → AreRefusals q v.published r → AreRefusals q old.published r
refusals_from q v old r is are = subst (λ (x : CoreView). AreRefusals q x.published r) is are

refusal_at : (t : Table) (q : List Submission) (v old : CoreView) (r share : PublishedView) → v ≡ old → IsRefusal t q old.published r share → IsRefusal t q v.published r share
refusal_at t q v old r share is refusal = subst (λ (x : CoreView). IsRefusal t q x.published r share) (sym is) refusal

pub one_refused_is_core : (t : Table) (q : List Submission) (v old : CoreView) (next share r other : PublishedView) (changes : RowChanges) (raw : Tables) (caps : Caps) (writes : ℕ) (b : AudienceView) → v ≡ old → IsCore v → IsPublished v.published → length q ≡ 1 → IsAttempt (tried_round One old.published q) old.published next share (Some changes) → IsRefusal t q old.published r other →
    caps ≡ v.caps → WasUndone t changes v.caps v.raw raw v.writes writes v.audience b → IsCore (record { raw = raw; caps = caps; writes = writes; published = r; audience = b })
one_refused_is_core t q v old next share r other changes raw caps writes b is core published single attempt refusal caps_is undone =
    let a = at_parts One q v old next share changes is attempt in
    let f = refusal_at t q v old r other is refusal in
    subst (λ (x : AudienceView). IsCore (record { raw = raw; caps = caps; writes = writes; published = r; audience = x })) (sym undone.audience)
    (one_refused_core q v next r changes t raw caps writes single core published a.round a.listed undone.full undone.raw caps_is f.round f.kept)

pub one_refused_is : (t : Table) (q : List Submission) (v old : CoreView) (next share r other : PublishedView) (changes : RowChanges) (raw : Tables) (caps : Caps) (writes : ℕ) (b : AudienceView) → v ≡ old → IsCore v → length q ≡ 1 → IsAttempt (tried_round One old.published q) old.published next share (Some changes) → IsRefusal t q old.published r other →
    caps ≡ v.caps → WasUndone t changes v.caps v.raw raw v.writes writes v.audience b → IsOne q old (record { raw = raw; caps = caps; writes = writes; published = r; audience = b })
one_refused_is t q v old next share r other changes raw caps writes b is core single attempt refusal caps_is undone =
    let a = at_parts One q v old next share changes is attempt in
    let f = refusal_at t q v old r other is refusal in
    subst (λ (x : AudienceView). IsOne q old (record { raw = raw; caps = caps; writes = writes; published = r; audience = x })) (sym undone.audience)
    (subst (λ (x : CoreView). IsOne q x (record { raw = raw; caps = caps; writes = writes; published = r; audience = v.audience })) is
    (one_refused q v next r changes t raw caps writes single core a.round a.listed undone.full undone.raw caps_is undone.writes f.round f.kept))
