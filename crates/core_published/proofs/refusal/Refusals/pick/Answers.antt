use Rattle.std.proofs.Common.{subst, sym}
use Rattle.core_laws.specs.Rounds.{IsRefusal}
use Rattle.net_types.specs.declared.table.Table.{Table}
use Rattle.core_published.proofs.refusal.Refusals.pick.Goals as goal

pub returns-in-L2 : goal.returns-in-L2
returns-in-L2 c = record { picked = λ q old are. subst (λ (t : Table). IsRefusal t q old c.args.self.l2.next c.args.self.l2.share) (sym c.in-L2.is) are.l2 }

pub returns-in-Host : goal.returns-in-Host
returns-in-Host c = record { picked = λ q old are. subst (λ (t : Table). IsRefusal t q old c.args.self.host.next c.args.self.host.share) (sym c.in-Host.is) are.host }

pub returns-in-Group : goal.returns-in-Group
returns-in-Group c = record { picked = λ q old are. subst (λ (t : Table). IsRefusal t q old c.args.self.group.next c.args.self.group.share) (sym c.in-Group.is) are.group }

pub returns-in-Route : goal.returns-in-Route
returns-in-Route c = record { picked = λ q old are. subst (λ (t : Table). IsRefusal t q old c.args.self.route.next c.args.self.route.share) (sym c.in-Route.is) are.route }
