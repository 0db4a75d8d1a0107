-- One caller's agent.
use Rattle.std.proofs.Common.{◌≡◌, ◌≤◌, ◌<◌, ◌+◌, ℕ, zero, suc, None, Some, List, [], ◌∷◌, length, drop, get_or, slice_index_or, refl, sym, ap, subst, ◌∙◌, arith}
use Rattle.script_text.specs.declared.script.Line.{Line}
use Rattle.solo_agent.specs.Views.{DeskView, Goes, Kept, SoloView, Stays, journal, sent}
use Rattle.solo_agent.proofs.DeskLaws.{switch_self, switch_trans}
use Rattle.solo_laws.specs.Waiting.{AreOf, course_of}
use Rattle.switch_model.specs.declared.act.Submission.{Submission}
use Rattle.switch_model.specs.declared.reply.Reply.{Reply}
use Rattle.told_laws.specs.Course.{Course, Ticket, lines, phases, settle_each, settle_one, step}

pub kept_self : (a : SoloView) → Kept a a
kept_self a = record { switch = switch_self a.core; limit = refl }

pub kept_trans : (a b c : SoloView) → Kept a b → Kept b c → Kept a c
kept_trans a b c p q = record { switch = switch_trans a.core b.core c.core p.switch q.switch; limit = q.limit ∙ p.limit }

pub goes_self : (a : SoloView) → Goes a a
goes_self a = record { kept = kept_self a; sent = refl; tickets = refl }

pub goes_trans : (a b c : SoloView) → Goes a b → Goes b c → Goes a c
goes_trans a b c p q = record { kept = kept_trans a b c p.kept q.kept; sent = q.sent ∙ p.sent; tickets = q.tickets ∙ p.tickets }

-- an agent by its parts
abbrev pub solo_of : DeskView → List Ticket → List (ℕ × Reply) → SoloView
solo_of d ws rs = record { core = d.core; limit = d.limit; course = course_of (journal d) d.waiting ws rs }

-- a desk that stays makes an agent that goes on
pub stays_goes : (d e : DeskView) (ws : List Ticket) (rs qs : List (ℕ × Reply)) → Stays d e → Goes (solo_of d ws rs) (solo_of e ws qs)
stays_goes d e ws rs qs stays = record { kept = record { switch = stays.switch; limit = stays.limit }; sent = stays.sent; tickets = refl }

-- its tickets stay those of what was submitted
pub stays_of : (d e : DeskView) (ws : List Ticket) → Stays d e → AreOf (sent d) ws → AreOf (sent e) ws
stays_of d e ws stays all = subst (λ (l : List Submission). AreOf l ws) (sym stays.sent) all

list_none : {A : Type 0} (x : A) (xs : List A) → [] ≡ x ∷ xs → ⊥
list_none x xs e = cc

-- a ticket in the list is one of what was submitted
pub ticket_there : (sent : List Submission) (ws : List Ticket) (n : ℕ) (t : Ticket) (rest : List Ticket) → AreOf sent ws → drop n ws ≡ t ∷ rest → t.position < length sent
ticket_there sent [] zero t rest all e = absurd (list_none t rest e)
ticket_there sent [] (suc n) t rest all e = absurd (list_none t rest e)
ticket_there sent (w ∷ ws) zero t rest all e = (subst (AreOf sent) e all).0
ticket_there sent (w ∷ ws) (suc n) t rest all e = ticket_there sent ws n t rest all.1 e

-- lines in turn
pub lines_next : (limit : ℕ) (ls : List Line) (n : ℕ) (l : Line) (c : Course) → drop n ls ≡ l ∷ drop (suc n) ls → lines limit c (drop n ls) ≡ lines limit (step limit c (Some l)) (drop (suc n) ls)
lines_next limit ls n l c e = ap (lines limit c) e

pub lines_done : (limit : ℕ) (ls : List Line) (n : ℕ) (c : Course) → length ls ≤ n → lines limit c (drop n ls) ≡ step limit c None
lines_done limit [] zero c le = refl
lines_done limit [] (suc n) c le = refl
lines_done limit (l ∷ ls) zero c le = absurd (omega (arith, le))
lines_done limit (l ∷ ls) (suc n) c le = lines_done limit ls n c (omega (arith, le))

pub phases_next : (limit : ℕ) (ps : List (List Line)) (n : ℕ) (p : List Line) (c : Course) → drop n ps ≡ p ∷ drop (suc n) ps → phases limit c (drop n ps) ≡ phases limit (lines limit c p) (drop (suc n) ps)
phases_next limit ps n p c e = ap (phases limit c) e

pub phases_done : (limit : ℕ) (ps : List (List Line)) (n : ℕ) (c : Course) → length ps ≤ n → phases limit c (drop n ps) ≡ c
phases_done limit [] zero c le = refl
phases_done limit [] (suc n) c le = refl
phases_done limit (p ∷ ps) zero c le = absurd (omega (arith, le))
phases_done limit (p ∷ ps) (suc n) c le = phases_done limit ps n c (omega (arith, le))

drop_item : {A : Type 0} (xs : List A) (n : ℕ) (x : A) → n < length xs → x ≡ slice_index_or xs n x → drop n xs ≡ x ∷ drop (suc n) xs
drop_item [] n x short is = absurd (omega (arith, short))
drop_item (y ∷ xs) zero x short is = ap (λ z. z ∷ xs) (sym is)
drop_item (y ∷ xs) (suc n) x short is = drop_item xs n x (omega (arith, short)) is

-- one ticket more of the list is settled
pub each_next : (old now new : SoloView) (ws : List Ticket) (n : ℕ) (t : Ticket) (all : Course) → ws ≡ now.course.tickets → Goes old now → settle_each (drop n old.course.tickets) now.course ≡ all → n < length ws → t ≡ slice_index_or ws n t → Goes now new → new.course ≡ settle_one t now.course →
    Goes old new × (settle_each (drop (n + 1) old.course.tickets) new.course ≡ all)
each_next old now new ws n t all ws_are goes so_far below is next new_is =
    let there : drop n old.course.tickets ≡ t ∷ drop (suc n) old.course.tickets = subst (λ (l : List Ticket). drop n l ≡ t ∷ drop (suc n) l) (ws_are ∙ goes.tickets) (drop_item ws n t below is) in
    let e : n + 1 ≡ suc n = omega arith in (
      goes_trans old now new goes next,
      ap (settle_each (drop (n + 1) old.course.tickets)) new_is
          ∙ ap (λ (k : ℕ). settle_each (drop k old.course.tickets) (settle_one t now.course)) e
          ∙ sym (ap (λ (l : List Ticket). settle_each l now.course) there)
          ∙ so_far,
    )

left_at : {A : Type 0} (xs : List A) (n : ℕ) (x : A) → n < length xs → x ≡ get_or xs n x → drop n xs ≡ x ∷ drop (suc n) xs
left_at [] n x short is = absurd (omega (arith, short))
left_at (y ∷ xs) zero x short is = ap (λ z. z ∷ xs) (sym is)
left_at (y ∷ xs) (suc n) x short is = left_at xs n x (omega (arith, short)) is

-- one line more of the phase is served
pub line_served : (old now new : SoloView) (items ls : List Line) (n : ℕ) (l : Line) (all : Course) → items ≡ ls → n < length items → l ≡ get_or items n l → Kept old now × (lines old.limit now.course (drop n ls) ≡ all) → Kept now new → new.course ≡ step now.limit now.course (Some l) →
    Kept old new × (lines old.limit new.course (drop (n + 1) ls) ≡ all)
line_served old now new items ls n l all items_are below is so_far kept new_is =
    let there : drop n ls ≡ l ∷ drop (suc n) ls = subst (λ (xs : List Line). drop n xs ≡ l ∷ drop (suc n) xs) items_are (left_at items n l below is) in
    let e : n + 1 ≡ suc n = omega arith in
    let limit : now.limit ≡ old.limit = so_far.0.limit in (
      kept_trans old now new so_far.0 kept,
      ap (λ (d : Course). lines old.limit d (drop (n + 1) ls)) (new_is ∙ ap (λ (k : ℕ). step k now.course (Some l)) limit)
          ∙ ap (λ (k : ℕ). lines old.limit (step old.limit now.course (Some l)) (drop k ls)) e
          ∙ sym (ap (lines old.limit now.course) there)
          ∙ so_far.1,
    )

-- one phase more is served
pub phase_served : (old now new : SoloView) (items ps : List (List Line)) (n : ℕ) (p : List Line) (all : Course) → items ≡ ps → n < length items → p ≡ get_or items n p → Kept old now × (phases old.limit now.course (drop n ps) ≡ all) → Kept now new → new.course ≡ lines now.limit now.course p →
    Kept old new × (phases old.limit new.course (drop (n + 1) ps) ≡ all)
phase_served old now new items ps n p all items_are below is so_far kept new_is =
    let there : drop n ps ≡ p ∷ drop (suc n) ps = subst (λ (xs : List (List Line)). drop n xs ≡ p ∷ drop (suc n) xs) items_are (left_at items n p below is) in
    let e : n + 1 ≡ suc n = omega arith in
    let limit : now.limit ≡ old.limit = so_far.0.limit in (
      kept_trans old now new so_far.0 kept,
      ap (λ (d : Course). phases old.limit d (drop (n + 1) ps)) (new_is ∙ ap (λ (k : ℕ). lines k now.course p) limit)
          ∙ ap (λ (k : ℕ). phases old.limit (lines old.limit now.course p) (drop k ps)) e
          ∙ sym (ap (phases old.limit now.course) there)
          ∙ so_far.1,
    )
