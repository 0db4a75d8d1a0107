-- Replies in the order of their lines.
use Rattle.std.proofs.Common.{◌≡◌, ◌≤◌, ◌<◌, ◌+◌, ℕ, List, [], ◌∷◌, ◌++◌, map, refl, ap, sym, ◌∙◌, append_assoc, arith}
use Rattle.std.proofs.lemmas.List.{append-nil, map-append}
use Rattle.std.specs.Cmp.{nat_cmp_is}
use Rattle.std.specs.List.{AllByRecursion}
use Rattle.std.specs.Ordering.{nat_cmp}
use Rattle.std.specs.declared.cmp.Ordering.TheVariants.{Less}
use Rattle.keyed.specs.Keyed.{Ascends, put}
use Rattle.keyed.specs.KeyedLaws.{ascends-put, put_comm}
use Rattle.keyed.specs.KeyOrders.{nat_order}
use Rattle.switch_model.specs.declared.reply.Reply.{Reply}
use Rattle.told_laws.specs.Told.{Order, Rise, Role, ToldLine, all_of, arranged, by_line, in_order, none, ordered, passes, put_by, role, settles, tell, waits}

-- replies put among others
abbrev pub into : List (ℕ × Reply) → List (ℕ × Reply) → List (ℕ × Reply)
into [] acc = acc
into (r ∷ rs) acc = put nat_cmp r.0 r.1 (into rs acc)

by_line_into : (rs : List (ℕ × Reply)) → by_line rs ≡ into rs []
by_line_into [] = refl
by_line_into (r ∷ rs) = ap (put nat_cmp r.0 r.1) (by_line_into rs)

into_append : (xs ys acc : List (ℕ × Reply)) → into (xs ++ ys) acc ≡ into xs (into ys acc)
into_append [] ys acc = refl
into_append (x ∷ xs) ys acc = ap (put nat_cmp x.0 x.1) (into_append xs ys acc)

into_ascends : (xs acc : List (ℕ × Reply)) → Ascends nat_cmp acc → Ascends nat_cmp (into xs acc)
into_ascends [] acc asc = asc
into_ascends (x ∷ xs) acc asc = ascends-put nat_cmp nat_order x.0 x.1 (into xs acc) (into_ascends xs acc asc)

-- one that has another number than these may come before them, or after them
into_over : (k : ℕ) (v : Reply) (xs acc : List (ℕ × Reply)) → Ascends nat_cmp acc → AllByRecursion (λ x. x.0 < k) xs → put nat_cmp k v (into xs acc) ≡ into xs (put nat_cmp k v acc)
into_over k v [] acc asc all = refl
into_over k v (x ∷ xs) acc asc all =
    put_comm nat_cmp nat_order k x.0 v x.1 (into xs acc) (into_ascends xs acc asc) (λ e. absurd (omega (arith, all.0, e)))
    ∙ ap (put nat_cmp x.0 x.1) (into_over k v xs acc asc all.1)

-- lines that wait have lower numbers than those that come
abbrev Below : ℕ → List ToldLine → Type 0
Below n xs = AllByRecursion (λ a. a.line.line < n) xs

below_more : (n m : ℕ) (xs : List ToldLine) → n ≤ m → Below n xs → Below m xs
below_more n m [] le all = tt
below_more n m (x ∷ xs) le all = (omega (arith, le, all.0), below_more n m xs le all.1)

below_next : (n : ℕ) (xs : List ToldLine) (a : ToldLine) → Below n xs → a.line.line < n → Below n (xs ++ a ∷ [])
below_next n [] a all lt = (lt, tt)
below_next n (x ∷ xs) a all lt = (all.0, below_next n xs a all.1 lt)

below_told : (n : ℕ) (xs : List ToldLine) → Below n xs → AllByRecursion (λ x. x.0 < n) (map tell xs)
below_told n [] all = tt
below_told n (x ∷ xs) all = (all.0, below_told n xs all.1)

abbrev RiseTold : ℕ → List ToldLine → Type 0
RiseTold n xs = Rise n (map (λ a. a.line) xs)

-- what was given, what waits, and what comes
abbrev all_put : Order → List ToldLine → List (ℕ × Reply) → List (ℕ × Reply)
all_put o more acc = into (map tell (o.given ++ (o.waiting ++ more))) acc

put_waits : (o : Order) (a : ToldLine) (more : List ToldLine) (acc : List (ℕ × Reply)) → all_put (put_by waits a o) more acc ≡ all_put o (a ∷ more) acc
put_waits o a more acc = ap (λ (l : List ToldLine). into (map tell (o.given ++ l)) acc) (append_assoc o.waiting (a ∷ []) more)

put_settles : (o : Order) (a : ToldLine) (more : List ToldLine) (acc : List (ℕ × Reply)) → all_put (put_by settles a o) more acc ≡ all_put o (a ∷ more) acc
put_settles o a more acc =
    ap (λ (l : List ToldLine). into (map tell l) acc) (append_assoc o.given (o.waiting ++ a ∷ []) more)
    ∙ ap (λ (l : List ToldLine). into (map tell (o.given ++ l)) acc) (append_assoc o.waiting (a ∷ []) more)

put_passes : (o : Order) (a : ToldLine) (more : List ToldLine) (acc : List (ℕ × Reply)) → Ascends nat_cmp acc → Below a.line.line o.waiting → all_put (put_by passes a o) more acc ≡ all_put o (a ∷ more) acc
put_passes o a more acc asc below =
    let given : List (ℕ × Reply) = map tell o.given in
    let waiting : List (ℕ × Reply) = map tell o.waiting in
    let rest : List (ℕ × Reply) = into (map tell more) acc in
    let left : all_put (put_by passes a o) more acc ≡ into given (put nat_cmp a.line.line a.reply (into waiting rest)) =
    ap (λ (l : List ToldLine). into (map tell l) acc) (append_assoc o.given (a ∷ []) (o.waiting ++ more))
    ∙ ap (λ (l : List (ℕ × Reply)). into l acc) (map-append tell o.given (a ∷ (o.waiting ++ more)))
    ∙ into_append given (tell a ∷ map tell (o.waiting ++ more)) acc
    ∙ ap (λ (l : List (ℕ × Reply)). into given (put nat_cmp a.line.line a.reply (into l acc))) (map-append tell o.waiting more)
    ∙ ap (λ (l : List (ℕ × Reply)). into given (put nat_cmp a.line.line a.reply l)) (into_append waiting (map tell more) acc) in
    let right : all_put o (a ∷ more) acc ≡ into given (into waiting (put nat_cmp a.line.line a.reply rest)) =
    ap (λ (l : List (ℕ × Reply)). into l acc) (map-append tell o.given (o.waiting ++ a ∷ more))
    ∙ into_append given (map tell (o.waiting ++ a ∷ more)) acc
    ∙ ap (λ (l : List (ℕ × Reply)). into given (into l acc)) (map-append tell o.waiting (a ∷ more))
    ∙ ap (into given) (into_append waiting (tell a ∷ map tell more) acc) in
    left ∙ ap (into given) (into_over a.line.line a.reply waiting rest (into_ascends (map tell more) acc asc) (below_told a.line.line o.waiting below)) ∙ sym right

-- the order in which answers were given is the lines' once they are put by their lines
arranged_by : (r : Role) (a : ToldLine) (more : List ToldLine) (o : Order) (n : ℕ) (acc : List (ℕ × Reply)) → Ascends nat_cmp acc → Below n o.waiting → RiseTold n (a ∷ more) →
    ((p : Order) → Below (a.line.line + 1) p.waiting → all_put (arranged p more) [] acc ≡ all_put p more acc) → all_put (arranged (put_by r a o) more) [] acc ≡ all_put o (a ∷ more) acc
arranged_by waits a more o n acc asc below rise next =
    next (put_by waits a o) (below_next (a.line.line + 1) o.waiting a (below_more n (a.line.line + 1) o.waiting (omega (arith, rise.0)) below) (omega arith)) ∙ put_waits o a more acc
arranged_by settles a more o n acc asc below rise next = next (put_by settles a o) tt ∙ put_settles o a more acc
arranged_by passes a more o n acc asc below rise next =
    next (put_by passes a o) (below_more n (a.line.line + 1) o.waiting (omega (arith, rise.0)) below) ∙ put_passes o a more acc asc (below_more n a.line.line o.waiting rise.0 below)

arranged_put : (more : List ToldLine) (o : Order) (n : ℕ) (acc : List (ℕ × Reply)) → Ascends nat_cmp acc → Below n o.waiting → RiseTold n more → all_put (arranged o more) [] acc ≡ all_put o more acc
arranged_put [] o n acc asc below rise = refl
arranged_put (a ∷ more) o n acc asc below rise =
    arranged_by (role a.line.job a.reply) a more o n acc asc below rise (λ p under. arranged_put more p (a.line.line + 1) acc asc under rise.1)

ordered_put : (xs : List ToldLine) (n : ℕ) (acc : List (ℕ × Reply)) → Ascends nat_cmp acc → RiseTold n xs → into (map tell (ordered xs)) acc ≡ into (map tell xs) acc
ordered_put xs n acc asc rise =
    ap (λ (l : List ToldLine). into (map tell ((arranged none xs).given ++ l)) acc) (sym (append-nil (arranged none xs).waiting))
    ∙ arranged_put xs none n acc asc tt rise

-- where lines rise, so do their parts

rise_left : (xs ys : List ToldLine) (n : ℕ) → RiseTold n (xs ++ ys) → RiseTold n xs
rise_left [] ys n rise = tt
rise_left (x ∷ xs) ys n rise = (rise.0, rise_left xs ys (x.line.line + 1) rise.1)

rise_right : (xs ys : List ToldLine) (n : ℕ) → RiseTold n (xs ++ ys) → (m : ℕ) × RiseTold m ys
rise_right [] ys n rise = (n, rise)
rise_right (x ∷ xs) ys n rise = rise_right xs ys (x.line.line + 1) rise.1

phases_put : (told : List (List ToldLine)) (n : ℕ) → RiseTold n (all_of told) → into (map tell (in_order told)) [] ≡ into (map tell (all_of told)) []
phases_put [] n rise = refl
phases_put (p ∷ ps) n rise =
    let behind = rise_right p (all_of ps) n rise in
    let rest : into (map tell (in_order ps)) [] ≡ into (map tell (all_of ps)) [] = phases_put ps behind.0 behind.1 in
    ap (λ (l : List (ℕ × Reply)). into l []) (map-append tell (ordered p) (in_order ps))
    ∙ into_append (map tell (ordered p)) (map tell (in_order ps)) []
    ∙ ap (into (map tell (ordered p))) rest
    ∙ ordered_put p n (into (map tell (all_of ps)) []) (into_ascends (map tell (all_of ps)) [] tt) (rise_left p (all_of ps) n rise)
    ∙ sym (into_append (map tell p) (map tell (all_of ps)) [])
    ∙ ap (λ (l : List (ℕ × Reply)). into l []) (sym (map-append tell p (all_of ps)))

-- lines that rise stand in their order

lower : (x y : ℕ) → x < y → nat_cmp x y ≡ Less
lower x y lt = sym (nat_cmp_is x y Less lt)

abbrev put_under : ℕ → Reply → List (ℕ × Reply) → List (ℕ × Reply)
put_under k v l = (k, v) ∷ l

put_first : (k : ℕ) (v : Reply) (xs : List ToldLine) (n : ℕ) → k < n → RiseTold n xs → put nat_cmp k v (map tell xs) ≡ put_under k v (map tell xs)
put_first k v [] n lt rise = refl
put_first k v (x ∷ xs) n lt rise = rw (lower k x.line.line (omega (arith, lt, rise.0))) refl

rise_put : (xs : List ToldLine) (n : ℕ) → RiseTold n xs → into (map tell xs) [] ≡ map tell xs
rise_put [] n rise = refl
rise_put (x ∷ xs) n rise = ap (put nat_cmp x.line.line x.reply) (rise_put xs (x.line.line + 1) rise.1) ∙ put_first x.line.line x.reply xs (x.line.line + 1) (omega arith) rise.1

-- replies that were given in any order of this kind, put by their lines, are those of the lines in turn
pub in_line : (told : List (List ToldLine)) (n : ℕ) → Rise n (map (λ a. a.line) (all_of told)) → by_line (map tell (in_order told)) ≡ map tell (all_of told)
in_line told n rise = by_line_into (map tell (in_order told)) ∙ phases_put told n rise ∙ rise_put (all_of told) n rise
