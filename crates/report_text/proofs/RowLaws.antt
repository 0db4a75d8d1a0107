-- The text of rows, a row at a time.
use Rattle.std.proofs.Common.{◌≡◌, ℕ, ◌+◌, ◌<◌, ◌≤◌, ◌⊎◌, inl, inr, Bool, zero, suc, List, [], ◌∷◌, ◌++◌, length, get_or, drop, ap, refl, sym, ◌∙◌, append_assoc, append-nil, arith}
use Rattle.std.proofs.lemmas.List.{at_drop_more}
use Rattle.net_types.specs.declared.table.HopTarget.{HopTarget}
use Rattle.net_types.specs.declared.table.HostKey.{HostKey}
use Rattle.net_types.specs.declared.table.HostRow.{HostRow}
use Rattle.net_types.specs.declared.table.L2Key.{L2Key}
use Rattle.net_types.specs.declared.table.L2Row.{L2Row}
use Rattle.net_types.specs.declared.table.RouteKey.{RouteKey}
use Rattle.switch_model.specs.declared.record.Totals.{Totals}
use Rattle.report_text.specs.Report.{observers_text}
use Rattle.report_text.specs.RowText.{groups_text, hosts_text, l2_text, members_text, routes_text}

-- the first row's line, and then the others
l2_text-cons : (e : L2Key × L2Row) (es : List (L2Key × L2Row)) → l2_text (e ∷ es) ≡ l2_text (e ∷ []) ++ l2_text es
l2_text-cons e es = simp append_assoc

hosts_text-cons : (e : HostKey × HostRow) (es : List (HostKey × HostRow)) → hosts_text (e ∷ es) ≡ hosts_text (e ∷ []) ++ hosts_text es
hosts_text-cons e es = simp append_assoc

groups_text-cons : (e : List HostKey × List Bool) (es : List (List HostKey × List Bool)) → groups_text (e ∷ es) ≡ groups_text (e ∷ []) ++ groups_text es
groups_text-cons e es = simp append_assoc

routes_text-cons : (groups : List (List HostKey × List Bool)) (e : RouteKey × HopTarget) (es : List (RouteKey × HopTarget)) → routes_text groups (e ∷ es) ≡ routes_text groups (e ∷ []) ++ routes_text groups es
routes_text-cons groups e es = simp append_assoc

observers_text-cons : (k : ℕ) (s : ℕ × Totals) (ss : List (ℕ × Totals)) → observers_text k (s ∷ ss) ≡ observers_text k (s ∷ []) ++ observers_text (k + 1) ss
observers_text-cons k s ss = simp append_assoc

members_text-cons : (host : HostKey) (live : Bool) (hosts : List HostKey) (marks : List Bool) → members_text (host ∷ hosts) (live ∷ marks) ≡ members_text (host ∷ []) (live ∷ []) ++ members_text hosts marks
members_text-cons host live hosts marks = simp append_assoc

-- one more line, of a text whose lines are apart
step : {X : Type 0} (text : List X → List ℕ) (apart : (x : X) (xs : List X) → text (x ∷ xs) ≡ text (x ∷ []) ++ text xs) (whole before after : List ℕ) (xs : List X) (i : ℕ) (x : X) → i < length xs → x ≡ get_or xs i x → before ++ text (drop i xs) ≡ whole → after ≡ before ++ text (x ∷ []) → after ++ text (drop (i + 1) xs) ≡ whole
step text apart whole before after xs i x within item so_far written =
    let rest : text (drop i xs) ≡ text (x ∷ []) ++ text (drop (i + 1) xs) = at_drop_more text xs i x within ∙ ap (λ y. text (y ∷ drop (i + 1) xs)) (sym item) ∙ apart x (drop (i + 1) xs) in
    ap (λ t. t ++ text (drop (i + 1) xs)) written ∙ append_assoc before (text (x ∷ [])) (text (drop (i + 1) xs)) ∙ ap (λ t. before ++ t) (sym rest) ∙ so_far

-- one more row is written
pub l2_text-step : (whole before after : List ℕ) (rows : List (L2Key × L2Row)) (i : ℕ) (e : L2Key × L2Row) → i < length rows → e ≡ get_or rows i e → before ++ l2_text (drop i rows) ≡ whole → after ≡ before ++ l2_text (e ∷ []) → after ++ l2_text (drop (i + 1) rows) ≡ whole
l2_text-step = step l2_text l2_text-cons

pub hosts_text-step : (whole before after : List ℕ) (rows : List (HostKey × HostRow)) (i : ℕ) (e : HostKey × HostRow) → i < length rows → e ≡ get_or rows i e → before ++ hosts_text (drop i rows) ≡ whole → after ≡ before ++ hosts_text (e ∷ []) → after ++ hosts_text (drop (i + 1) rows) ≡ whole
hosts_text-step = step hosts_text hosts_text-cons

pub groups_text-step : (whole before after : List ℕ) (rows : List (List HostKey × List Bool)) (i : ℕ) (e : List HostKey × List Bool) → i < length rows → e ≡ get_or rows i e → before ++ groups_text (drop i rows) ≡ whole → after ≡ before ++ groups_text (e ∷ []) → after ++ groups_text (drop (i + 1) rows) ≡ whole
groups_text-step = step groups_text groups_text-cons

pub routes_text-step : (groups : List (List HostKey × List Bool)) (whole before after : List ℕ) (rows : List (RouteKey × HopTarget)) (i : ℕ) (e : RouteKey × HopTarget) → i < length rows → e ≡ get_or rows i e → before ++ routes_text groups (drop i rows) ≡ whole → after ≡ before ++ routes_text groups (e ∷ []) → after ++ routes_text groups (drop (i + 1) rows) ≡ whole
routes_text-step groups = step (routes_text groups) (routes_text-cons groups)

-- one more observer
pub observers_text-step : (whole before after : List ℕ) (all : List (ℕ × Totals)) (i k next : ℕ) (s : ℕ × Totals) → i < length all → s ≡ get_or all i s → before ++ observers_text k (drop i all) ≡ whole → after ≡ before ++ observers_text k (s ∷ []) → next ≡ k + 1 → after ++ observers_text next (drop (i + 1) all) ≡ whole
observers_text-step whole before after all i k next s within item so_far written count =
    let rest : observers_text k (drop i all) ≡ observers_text k (s ∷ []) ++ observers_text next (drop (i + 1) all) =
    at_drop_more (observers_text k) all i s within ∙ ap (λ (y : ℕ × Totals). observers_text k (y ∷ drop (i + 1) all)) (sym item) ∙ observers_text-cons k s (drop (i + 1) all) ∙ ap (λ (n : ℕ). observers_text k (s ∷ []) ++ observers_text n (drop (i + 1) all)) (sym count) in
    ap (λ (t : List ℕ). t ++ observers_text next (drop (i + 1) all)) written ∙ append_assoc before (observers_text k (s ∷ [])) (observers_text next (drop (i + 1) all)) ∙ ap (λ (t : List ℕ). before ++ t) (sym rest) ∙ so_far

-- one more member

pub members_text-step : (whole before after : List ℕ) (hosts : List HostKey) (marks : List Bool) (i : ℕ) (host : HostKey) (live d : Bool) → i < length hosts → i < length marks → host ≡ get_or hosts i host → live ≡ get_or marks i d →
    before ++ members_text (drop i hosts) (drop i marks) ≡ whole → after ≡ before ++ members_text (host ∷ []) (live ∷ []) → after ++ members_text (drop (i + 1) hosts) (drop (i + 1) marks) ≡ whole
members_text-step whole before after hosts marks i host live d within there item mark so_far written =
    let first : members_text (drop i hosts) (drop i marks) ≡ members_text (host ∷ drop (i + 1) hosts) (drop i marks) =
    at_drop_more (λ (hs : List HostKey). members_text hs (drop i marks)) hosts i host within ∙ ap (λ (y : HostKey). members_text (y ∷ drop (i + 1) hosts) (drop i marks)) (sym item) in
    let second : members_text (host ∷ drop (i + 1) hosts) (drop i marks) ≡ members_text (host ∷ drop (i + 1) hosts) (live ∷ drop (i + 1) marks) =
    at_drop_more (λ (ms : List Bool). members_text (host ∷ drop (i + 1) hosts) ms) marks i d there ∙ ap (λ (y : Bool). members_text (host ∷ drop (i + 1) hosts) (y ∷ drop (i + 1) marks)) (sym mark) in
    let rest = first ∙ second ∙ members_text-cons host live (drop (i + 1) hosts) (drop (i + 1) marks) in
    ap (λ (t : List ℕ). t ++ members_text (drop (i + 1) hosts) (drop (i + 1) marks)) written ∙ append_assoc before (members_text (host ∷ []) (live ∷ [])) (members_text (drop (i + 1) hosts) (drop (i + 1) marks)) ∙ ap (λ (t : List ℕ). before ++ t) (sym rest) ∙ so_far

no_marks : (hosts : List HostKey) → members_text hosts [] ≡ []
no_marks [] = refl
no_marks (h ∷ hs) = refl

drop_past : {A : Type 0} (xs : List A) (n : ℕ) → length xs ≤ n → drop n xs ≡ []
drop_past [] zero le = refl
drop_past [] (suc n) le = refl
drop_past (x ∷ xs) zero le = absurd (omega (arith, le))
drop_past (x ∷ xs) (suc n) le = drop_past xs n (omega (arith, le))

-- no member is left
pub members_text-end : (hosts : List HostKey) (marks : List Bool) (i : ℕ) → (length hosts ≤ i) ⊎ (length marks ≤ i) → members_text (drop i hosts) (drop i marks) ≡ []
members_text-end hosts marks i (inl le) = ap (λ (hs : List HostKey). members_text hs (drop i marks)) (drop_past hosts i le)
members_text-end hosts marks i (inr le) = ap (members_text (drop i hosts)) (drop_past marks i le) ∙ no_marks (drop i hosts)

pub members_done : (out whole : List ℕ) (hosts : List HostKey) (marks : List Bool) (i : ℕ) → (length hosts ≤ i) ⊎ (length marks ≤ i) → out ++ members_text (drop i hosts) (drop i marks) ≡ whole → out ≡ whole
members_done out whole hosts marks i over so_far = sym (append-nil out) ∙ ap (λ (t : List ℕ). out ++ t) (sym (members_text-end hosts marks i over)) ∙ so_far
