-- What is published where an update is refused.
use Rattle.std.specs.Prelude.{List}
use Rattle.net_types.specs.declared.table.Table.TheVariants.{L2, Host, Group, Route}
use Rattle.switch_model.specs.declared.act.Submission.{Submission}
use Rattle.core_laws.specs.Published.{PublishedView}
use Rattle.core_laws.specs.Rounds.{IsRefusal}
use Rattle.core_published.specs.declared.refusal.Refusals.{Refusals}

-- the first of a run refused for each table
pub record AreRefusals (q : List Submission) (old : PublishedView) (r : Refusals) : Type 0 where
  pub l2 : IsRefusal L2 q old r.l2.next r.l2.share
  pub host : IsRefusal Host q old r.host.next r.host.share
  pub group : IsRefusal Group q old r.group.next r.group.share
  pub route : IsRefusal Route q old r.route.next r.route.share
