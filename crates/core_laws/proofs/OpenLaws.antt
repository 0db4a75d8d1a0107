-- How a core begins: on an empty chip, or on one that shows the rows already.
use Rattle.std.proofs.Common.{◌≡◌, ℕ, Option, None, [], refl, sym, ap, subst, ◌∙◌}
use Rattle.std.proofs.lemmas.Bool.{le-ltb}
use Rattle.chip_core.specs.Changes.{AreOldRows, changed_rows}
use Rattle.chip_core.specs.Chip.{IsChip, empty, view_of}
use Rattle.chip_core.specs.ChipLaws.{view-within}
use Rattle.chip_core.specs.declared.changes.RowChanges.{RowChanges}
use Rattle.net_types.specs.Capacity.{over, Fits}
use Rattle.net_types.specs.Closed.{IsClosed}
use Rattle.net_types.specs.Rows.{Rows}
use Rattle.net_types.specs.declared.table.Caps.{Caps}
use Rattle.net_types.specs.declared.table.Table.{Table}
use Rattle.net_types.specs.declared.table.Tables.{Tables}
use Rattle.switch_model.specs.Legal.{IsLegal}
use Rattle.switch_model.specs.PlainState.{PlainState}
use Rattle.switch_model.specs.Rows.{rows}
use Rattle.switch_model.specs.Sound.{IsSound}
use Rattle.switch_state.specs.Follows.{Follows}
use Rattle.switch_state.specs.Plain.{plain}
use Rattle.switch_state.specs.StateView.{StateView, nothing}
use Rattle.state_laws.specs.Fib.{HasFib}
use Rattle.core_laws.specs.Audience.{AudienceView, WereBegun}
use Rattle.core_laws.specs.Changes.{AreChanges}
use Rattle.core_laws.specs.Published.{IsCore, IsPublished, PublishedView, journal_of}
use Rattle.core_laws.proofs.AudienceLaws.{heard_begun}
use Rattle.core_laws.proofs.ChangeLaws.{new_there, old_there}

-- what is published first
abbrev pub opened : StateView → Caps → PublishedView
opened s caps = record { base = s; state = s; rounds = []; caps = caps }

pub open_published : (s : StateView) (caps : Caps) → HasFib s → IsPublished (record { base = s; state = s; rounds = []; caps = caps })
open_published s caps fib = record { plain = refl; version = refl; fib = fib }

-- an empty chip

nothing_shown : (old : Tables) → old ≡ empty → view_of old ≡ rows (plain nothing)
nothing_shown old is = ap view_of is

pub nothing_has_fib : (s : StateView) → s ≡ nothing → HasFib s
nothing_has_fib s is = let fib : HasFib nothing = record { fib = refl } in subst HasFib (sym is) fib

pub open_old : (s : StateView) (old : Tables) (none : StateView) (changes : RowChanges) → old ≡ empty → none ≡ nothing → AreChanges (rows (plain none)) (rows (plain s)) changes → AreOldRows changes (view_of old)
open_old s old none changes is none_is are = old_there (rows (plain none)) (rows (plain s)) old changes (nothing_shown old is ∙ ap (λ (x : StateView). rows (plain x)) (sym none_is)) are

pub open_new : (s : StateView) (old : Tables) (none : StateView) (changes : RowChanges) → old ≡ empty → none ≡ nothing → AreChanges (rows (plain none)) (rows (plain s)) changes → changed_rows changes (view_of old) ≡ rows (plain s)
open_new s old none changes is none_is are = new_there (rows (plain none)) (rows (plain s)) old changes (nothing_shown old is ∙ ap (λ (x : StateView). rows (plain x)) (sym none_is)) are

pub open_closed : (s : StateView) (old : Tables) (none : StateView) (changes : RowChanges) → old ≡ empty → none ≡ nothing → AreChanges (rows (plain none)) (rows (plain s)) changes → IsClosed (changed_rows changes (view_of old))
open_closed s old none changes is none_is are = subst IsClosed (sym (open_new s old none changes is none_is are)) are.closed

pub open_over : (base s : StateView) (old : Tables) (none : StateView) (caps : Caps) (changes : RowChanges) (answer : Option Table) → old ≡ empty → none ≡ nothing → AreChanges (rows (plain none)) (rows (plain s)) changes → plain s ≡ plain base → answer ≡ over (changed_rows changes (view_of old)) caps → over (rows (plain base)) caps ≡ answer
open_over base s old none caps changes answer is none_is are plain_is first = sym (first ∙ ap (λ (x : Rows). over x caps) (open_new s old none changes is none_is are ∙ ap rows plain_is))

pub open_journal : (base s : StateView) (p : PublishedView) (caps : Caps) → p ≡ record { base = s; state = s; rounds = []; caps = caps } → plain s ≡ plain base → s.version ≡ base.version → journal_of p ≡ record { opening = record { state = plain base; version = base.version; caps = caps }; rounds = [] }
open_journal base s p caps is plain_is version_is = ap journal_of is ∙ rw (plain_is, version_is) refl

-- a state whose rows fit, on a chip that shows them
begun_core : (s : StateView) (p : PublishedView) (raw : Tables) (now caps : Caps) (writes : ℕ) (before a : AudienceView) → p ≡ record { base = s; state = s; rounds = []; caps = caps } → IsSound (plain s) → HasFib s → Follows s s → Fits (rows (plain s)) caps → view_of raw ≡ rows (plain s) → now ≡ caps → WereBegun s before a →
    IsCore (record { raw = raw; caps = now; writes = writes; published = p; audience = a })
begun_core s p raw now caps writes before a is sound fib follows fits view now_is begun =
    let q : PublishedView = record { base = s; state = s; rounds = []; caps = caps } in
    let legal : IsLegal (journal_of q) = (fits, tt) in
    let made : IsCore (record { raw = raw; caps = now; writes = writes; published = q; audience = a }) = record {
      legal = legal;
      sound = sound;
      caps = sym now_is;
      view = view;
      heard = heard_begun (journal_of q) s before a legal follows refl refl fib begun;
    } in
    subst (λ (v : PublishedView). IsCore (record { raw = raw; caps = now; writes = writes; published = v; audience = a })) (sym is) made

pub open_core : (base s : StateView) (p : PublishedView) (old raw : Tables) (none : StateView) (now caps : Caps) (writes : ℕ) (before a : AudienceView) (changes : RowChanges) → p ≡ record { base = s; state = s; rounds = []; caps = caps } → plain s ≡ plain base → IsSound (plain base) → HasFib s → Follows s s →
    old ≡ empty → none ≡ nothing → AreChanges (rows (plain none)) (rows (plain s)) changes → None ≡ over (changed_rows changes (view_of old)) caps → view_of raw ≡ changed_rows changes (view_of old) → now ≡ caps → WereBegun s before a →
    IsCore (record { raw = raw; caps = now; writes = writes; published = p; audience = a })
open_core base s p old raw none now caps writes before a changes is plain_is sound fib follows old_is none_is are first view now_is begun =
    begun_core s p raw now caps writes before a is (subst IsSound (sym plain_is) sound) fib follows
    (ap (λ (m : PlainState). over (rows m) caps) plain_is ∙ open_over base s old none caps changes None old_is none_is are plain_is first)
    (view ∙ open_new s old none changes old_is none_is are) now_is begun

-- a chip that shows the rows already

pub chip_fits : (caps : Caps) (raw : Tables) → IsChip caps raw → Fits (view_of raw) caps
chip_fits caps raw chip =
    let within = view-within caps raw chip in
    rw (le-ltb _ _ within.l2, le-ltb _ _ within.host, le-ltb _ _ within.group, le-ltb _ _ within.route) refl

pub adopt_core : (s : StateView) (p : PublishedView) (raw : Tables) (now caps : Caps) (writes : ℕ) (before a : AudienceView) → p ≡ record { base = s; state = s; rounds = []; caps = caps } → IsSound (plain s) → HasFib s → Follows s s → IsChip caps raw → view_of raw ≡ rows (plain s) → now ≡ caps → WereBegun s before a →
    IsCore (record { raw = raw; caps = now; writes = writes; published = p; audience = a })
adopt_core s p raw now caps writes before a is sound fib follows chip view now_is begun =
    begun_core s p raw now caps writes before a is sound fib follows (subst (λ (r : Rows). Fits r caps) view (chip_fits caps raw chip)) view now_is begun
