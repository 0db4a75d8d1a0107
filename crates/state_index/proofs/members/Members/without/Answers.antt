use Rattle.std.proofs.Common.{ℕ, List, map, sym, ap, ◌∙◌, subst}
use Rattle.std.specs.List.{All}
use Rattle.std.specs.Ordering.{nat_cmp}
use Rattle.keyed.specs.Sets.{delete}
use Rattle.state_index.specs.MemberKey.{IsMemberNumber, member_at, member_cmp, member_number, member_numbering}
use Rattle.subnet_index.proofs.Numbered.{all_delete, delete_numbered}
use Rattle.state_index.proofs.members.Members.without.Goals as goal

pub invariant_of-result : goal.invariant_of-result
invariant_of-result c = subst (λ (xs : List ℕ). All IsMemberNumber xs) (sym (c.in_ok-keys.ensures ∙ ap (λ z. delete nat_cmp z c.self.inside.keys) c.member_key.ensures.key)) (all_delete IsMemberNumber (member_number c.args.member.now) c.self.inside.keys c.self.invariant)

pub returns : goal.returns
returns c = ap (map member_at) (c.in_ok-keys.ensures ∙ ap (λ z. delete nat_cmp z c.self.inside.keys) c.member_key.ensures.key) ∙ delete_numbered member_numbering c.args.member.now c.self.inside.keys c.member_key.ensures.range c.self.invariant ∙ ap (delete member_cmp c.args.member.now) c.self.view_is
