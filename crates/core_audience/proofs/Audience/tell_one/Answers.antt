use Rattle.std.proofs.Common.{◌≡◌, ◌<◌, length, ap, sym, ◌∙◌, refl, inl, inr}
use Rattle.core_laws.specs.Audience.{AudienceView}
use Rattle.observers.specs.Turns.{WasTold}
use Rattle.observers.specs.Watch.{StandsAt, Watch, at_state}
use Rattle.observers.proofs.ListTurns.{pair_at, follows_at, both_change, second_changes, changes_so, unchanged, set_changes}
use Rattle.switch_state.specs.Follows.{Follows}
use Rattle.switch_state.specs.StateView.{StateView}
use Rattle.core_audience.proofs.Hearing.{told_stands, refused_stands}
use Rattle.core_audience.proofs.Audience.tell_one.Goals as goal

abbrev at_new : StateView → Watch → Watch → Type 0
at_new s w v = v ≡ at_state s w

pub update-requires-clause-stands : goal.update-requires-clause-stands
update-requires-clause-stands g c = let short : c.args.n < length c.self.inside.kept.items = rw (ap (λ (v : AudienceView). v.kept) c.self.view_is) c.requires.there in pair_at StandsAt c.self.inside.kept.items _ c.args.n _ c.self.invariant short c.index-old.ensures

pub update-requires-clause-follows : goal.update-requires-clause-follows
update-requires-clause-follows g c = let short : c.args.n < length c.self.inside.kept.items = rw (ap (λ (v : AudienceView). v.kept) c.self.view_is) c.requires.there in follows_at (λ (s : StateView). Follows s c.args.state.now) c.self.inside.kept.items c.args.n _ short c.index-old.ensures (rw (ap (λ (v : AudienceView). v.kept) c.self.view_is) c.requires.follows)

pub invariant_of-self : goal.invariant_of-self
invariant_of-self g c = both_change StandsAt (at_new c.args.state.now) c.self.inside.kept.items _ _ c.args.n _ (λ w v t. rw (c.swap.ensures.x_after, c.requires.share) (told_stands c.args.state.now w v t)) c.self.invariant (c.in-Ok.ensures.told)

pub returns-in-Ok-clause-watches : goal.returns-in-Ok-clause-watches
returns-in-Ok-clause-watches g c = rw (← (ap (λ (v : AudienceView). v.watches) c.self.view_is)) (changes_so _ (WasTold c.args.state.now) c.args.n _ _ (λ w v t. inl t) (c.in-Ok.ensures.told))

pub returns-in-Ok-clause-kept : goal.returns-in-Ok-clause-kept
returns-in-Ok-clause-kept g c = rw (← (ap (λ (v : AudienceView). v.kept) c.self.view_is)) (set_changes _ c.args.n c.self.inside.kept.items _ (λ x. inr (c.swap.ensures.x_after ∙ c.requires.share)) (rw (ap (λ (v : AudienceView). v.kept) c.self.view_is) c.requires.there))

pub invariant_of-self-in-Err : goal.invariant_of-self-in-Err
invariant_of-self-in-Err g c = second_changes StandsAt _ c.self.inside.kept.items _ _ c.args.n (λ x w v p t. refused_stands x w v p t) c.self.invariant (c.in-Err.ensures.told)

pub returns-in-Err-clause-watches : goal.returns-in-Err-clause-watches
returns-in-Err-clause-watches g c = rw (← (ap (λ (v : AudienceView). v.watches) c.self.view_is)) (changes_so _ (WasTold c.args.state.now) c.args.n _ _ (λ w v t. inr t) (c.in-Err.ensures.told))

pub returns-in-Err-clause-kept : goal.returns-in-Err-clause-kept
returns-in-Err-clause-kept g c = rw (← (ap (λ (v : AudienceView). v.kept) c.self.view_is)) (unchanged _ c.args.n c.self.inside.kept.items (λ x. inl refl) (rw (ap (λ (v : AudienceView). v.kept) c.self.view_is) c.requires.there))
