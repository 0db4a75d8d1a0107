-- Where each kind of observer stands.
use Rattle.std.specs.Prelude.{true, false}
use Rattle.observers.specs.Watch.{Watch}
use Rattle.observer_kinds.specs.declared.changing.ChangesObserver.{ChangesObserver}
use Rattle.observer_kinds.specs.declared.counting.TotalsObserver.{TotalsObserver}
use Rattle.observer_kinds.specs.declared.fussing.FussyObserver.{FussyObserver}
use Rattle.observer_kinds.specs.declared.watcher.Watcher.{Watcher}
use Rattle.observer_kinds.specs.declared.watcher.Watcher.TheVariants as kind

-- one that counts is sure
abbrev pub totals_watch : TotalsObserver → Watch
totals_watch o = record { version = o.version; totals = o.totals; refusals = 0; sure = true }

-- one that keeps changes isn't
abbrev pub changes_watch : ChangesObserver → Watch
changes_watch o = record { version = o.version; totals = o.totals; refusals = o.refusals; sure = false }

-- nor is one that is to refuse
abbrev pub fussy_watch : FussyObserver → Watch
fussy_watch o = record { version = o.version; totals = o.totals; refusals = o.refusals; sure = false }

abbrev pub watch_of : Watcher → Watch
watch_of (kind.Totals o) = totals_watch o
watch_of (kind.Changes o) = changes_watch o
watch_of (kind.Fussy o) = fussy_watch o
