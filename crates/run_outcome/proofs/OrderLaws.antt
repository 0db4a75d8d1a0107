-- Replies in the order of their lines.
use Rattle.std.proofs.Common.{◌≡◌, ℕ, List, [], ◌∷◌, ◌++◌, refl, ap, sym, ◌∙◌}
use Rattle.std.specs.Ordering.{match_ordering, nat_cmp}
use Rattle.std.specs.declared.cmp.Ordering.{Ordering}
use Rattle.std.specs.declared.cmp.Ordering.TheVariants.{Less, Equal, Greater}
use Rattle.std_collections.specs.BTreeMap.{insert_entry}
use Rattle.keyed.specs.Keyed.{put}
use Rattle.keyed.specs.KeyOrders.{nat_order}
use Rattle.switch_model.specs.declared.reply.Reply.{Reply}
use Rattle.told_laws.specs.Told.{by_line}

-- replies put among others, the last one first
abbrev pub into : List (ℕ × Reply) → List (ℕ × Reply) → List (ℕ × Reply)
into [] acc = acc
into (r ∷ rs) acc = put nat_cmp r.0 r.1 (into rs acc)

into_none : (rs : List (ℕ × Reply)) → into rs [] ≡ by_line rs
into_none [] = refl
into_none (r ∷ rs) = ap (put nat_cmp r.0 r.1) (into_none rs)

into_append : (xs ys acc : List (ℕ × Reply)) → into (xs ++ ys) acc ≡ into xs (into ys acc)
into_append [] ys acc = refl
into_append (x ∷ xs) ys acc = ap (put nat_cmp x.0 x.1) (into_append xs ys acc)

-- what a tree's insertion makes of entries is what `put` makes of them
entry_by : (o : Ordering) (k : ℕ) (v : Reply) (e : ℕ × Reply) (es more : List (ℕ × Reply)) → nat_cmp k e.0 ≡ o → match_ordering o ((k, v) ∷ e ∷ es) ((e.0, v) ∷ es) (e ∷ more) ≡ match_ordering o ((k, v) ∷ e ∷ es) ((k, v) ∷ es) (e ∷ more)
entry_by Less k v e es more is = refl
entry_by Equal k v e es more is = ap (λ (n : ℕ). (n, v) ∷ es) (sym (nat_order.exact k e.0 is))
entry_by Greater k v e es more is = refl

insert_put : (es : List (ℕ × Reply)) (k : ℕ) (v : Reply) → insert_entry nat_cmp es k v ≡ put nat_cmp k v es
insert_put [] k v = refl
insert_put (e ∷ es) k v =
    ap (λ (l : List (ℕ × Reply)). match_ordering (nat_cmp k e.0) ((k, v) ∷ e ∷ es) ((e.0, v) ∷ es) (e ∷ l)) (insert_put es k v)
    ∙ entry_by (nat_cmp k e.0) k v e es (put nat_cmp k v es) refl

-- nothing was put yet
pub order_starts : (all items entries : List (ℕ × Reply)) → items ≡ all → entries ≡ [] → into items entries ≡ by_line all
order_starts all items entries items_are none = ap (into items) none ∙ ap (λ (l : List (ℕ × Reply)). into l []) items_are ∙ into_none all

-- one reply more is put
pub order_next : (all before after entries new : List (ℕ × Reply)) (line : ℕ) (reply : Reply) → into before entries ≡ by_line all → before ≡ after ++ (line, reply) ∷ [] → new ≡ insert_entry nat_cmp entries line reply → into after new ≡ by_line all
order_next all before after entries new line reply so_far split new_is =
    ap (into after) (new_is ∙ insert_put entries line reply)
    ∙ sym (into_append after ((line, reply) ∷ []) entries)
    ∙ ap (λ (l : List (ℕ × Reply)). into l entries) (sym split)
    ∙ so_far

-- all are put
pub order_ends : (all items entries : List (ℕ × Reply)) → into items entries ≡ by_line all → items ≡ [] → entries ≡ by_line all
order_ends all items entries so_far none = ap (λ (l : List (ℕ × Reply)). into l entries) (sym none) ∙ so_far
