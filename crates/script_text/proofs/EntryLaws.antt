-- The lines of a script, by their places.
use Rattle.std.proofs.Common.{◌≡◌, ◌≤◌, ◌-◌, ℕ, suc, List, [], ◌∷◌, length, Bool, true, false, Result, Ok, Err, ◌⊎◌, inl, inr, refl, sym, ap, subst, ◌∙◌, arith, codes}
use Rattle.std.specs.Prelude.{IfOk, IfErr}
use Rattle.std.specs.Str.{bytes_eq}
use Rattle.std.proofs.lemmas.Slice.Eq.{bytes_eq-Decides}
use Rattle.switch_model.specs.declared.act.Act.{Act}
use Rattle.switch_model.specs.declared.act.Update.{Update}
use Rattle.switch_model.specs.declared.query.Query.{Query}
use Rattle.switch_model.specs.declared.query.Query.TheVariants as queries
use Rattle.script_words.specs.declared.fault.ReadFault.{ReadFault}
use Rattle.script_words.specs.declared.fault.ReadFault.TheVariants.{Memory, Left}
use Rattle.script_words.specs.Grammar.{Token, AreWords}
use Rattle.script_words.specs.Faults.{IsFault}
use Rattle.script_words.specs.Reading.{Gives, begins_with, choose, turned, one, ended, number_of}
use Rattle.script_words.specs.Exact.{Exact, Partly, exact_ended, exact_choose, exact_map, partly_choose, partly_bad, fault_is}
use Rattle.script_words.specs.Classes.{number_class, port_class, vrf_class, name_class, ip_class}
use Rattle.script_words.specs.Again.{Again, exact_one, again_ended, again_one, again_here, again_next, again_map}
use Rattle.script_text.specs.declared.script.Start.{Start}
use Rattle.script_text.specs.declared.script.Start.TheVariants.{Cold, Warm}
use Rattle.script_text.specs.declared.script.Job.{Job}
use Rattle.script_text.specs.declared.script.Job.TheVariants.{Submit, Settle, Pump, Peek, Tables, Show}
use Rattle.script_text.specs.declared.entries.Entry.{Entry}
use Rattle.script_text.specs.declared.entries.Entry.TheVariants.{Starts, Limits, Calls, Bases, NewPhase, Does}
use Rattle.script_text.specs.declared.entries.Stage.{Stage}
use Rattle.script_text.specs.declared.entries.Stage.TheVariants.{Opening, Started, Limited, Called, InPhase}
use Rattle.script_text.specs.Grammar.{act, marked, update, query, job, line, start, limit, callers, base, phase}
use Rattle.script_text.specs.Script.{IsStage, IsEntry, IsAllowed}
use Rattle.script_text.specs.Reading.{act_at, update_of, update_at, query_at, job_at, line_of, line_at, caps_at, start_at, limit_at, callers_at, phase_or, base_at, entry_at}
use Rattle.script_text.proofs.ActLaws.{exact_act, act_again}

-- Past a keyword that what follows doesn't begin with.

whether : (b : Bool) → (b ≡ true) ⊎ (b ≡ false)
whether true = inl refl
whether false = inr refl

never : {A : Type 0} (read : List (List ℕ) → Result A ℕ) (ts : List Token) (x : A) (text : List ℕ) → ((ws : List (List ℕ)) → (n : ℕ) × (read (text ∷ ws) ≡ Err n)) → Again read ts x → (ws : List (List ℕ)) → AreWords ts ws → begins_with text ws ≡ false
never read ts x text dies a [] is = refl
never read ts x text dies a (w ∷ ws) is = elim (whether (bytes_eq w text)) [
  | inl same ↦ let d = dies ws in let e = sym (a.again (w ∷ ws) is) ∙ ap (λ v. read (v ∷ ws)) ((bytes_eq-Decides w text).0 same) ∙ d.1 in absurd cc
  | inr other ↦ other
]

past_reads : {A : Type 0} (text : List ℕ) (here other : List (List ℕ) → Result A ℕ) (ts : List Token) (x : A) → ((ws : List (List ℕ)) → (n : ℕ) × (other (text ∷ ws) ≡ Err n)) → Again other ts x → (ws : List (List ℕ)) → AreWords ts ws → choose text here other ws ≡ Ok x
unfolding choose
past_reads text here other ts x dies a ws is = rw (never other ts x text dies a ws is) (a.again ws is)

again_past : {A : Type 0} (text : List ℕ) (here : List (List ℕ) → Result A ℕ) {other : List (List ℕ) → Result A ℕ} {ts : List Token} {x : A} → ((ws : List (List ℕ)) → (n : ℕ) × (other (text ∷ ws) ≡ Err n)) → Again other ts x → Again (choose text here other) ts x
again_past {A} text here {other} {ts} {x} dies a = record { again = past_reads text here other ts x dies a }

-- Updates, questions and jobs.

exact_update : Exact update_at (λ u ws. AreWords (update u) ws)
unfolding update_at
exact_update = exact_choose (codes "alone") (exact_map (update_of true) (λ a ws is. (refl, is)) exact_act) (exact_map (update_of false) (λ a ws is. is) exact_act).partly

update_by : (alone : Bool) (a : Act) → Again update_at (marked alone (codes "alone") (act a)) (update_of alone a)
unfolding update_at choose turned act_at
update_by true a = again_here _ (again_map (update_of true) (act_again a))
update_by false a = again_past (codes "alone") (turned (update_of true) act_at) (λ ws. (suc (length ws), refl)) (again_map (update_of false) (act_again a))

pub update_again : (u : Update) → Again update_at (update u) u
update_again u = update_by u.alone u.act

exact_query : Exact query_at (λ q ws. AreWords (query q) ws)
unfolding query_at
exact_query =
    exact_choose (codes "version") (exact_ended (refl, tt)) (partly_choose (codes "counts") (exact_ended (refl, tt))
    (partly_choose (codes "port") (exact_one port_class (λ w p p_is. exact_ended (refl, (p_is, tt))))
    (partly_choose (codes "route") (exact_one vrf_class (λ w n n_is. exact_one ip_class (λ u a a_is. exact_ended (refl, (n_is, (a_is, tt)))))) partly_bad)))

query_again : (q : Query) → Again query_at (query q) q
unfolding query_at
query_again queries.Version = again_here _ again_ended
query_again queries.Counts = again_next _ _ refl (again_here _ again_ended)
query_again (queries.Port p) = again_next _ _ refl (again_next _ _ refl (again_here _ (again_one _ port_class again_ended)))
query_again (queries.Route n a) = again_next _ _ refl (again_next _ _ refl (again_next _ _ refl (again_here _ (again_one _ vrf_class (again_one _ ip_class again_ended)))))

exact_job : Exact job_at (λ j ws. AreWords (job j) ws)
unfolding job_at
exact_job =
    exact_choose (codes "settle") (exact_ended (refl, tt)) (partly_choose (codes "pump") (exact_ended (refl, tt))
    (partly_choose (codes "peek") (exact_ended (refl, tt)) (partly_choose (codes "tables") (exact_ended (refl, tt))
    (partly_choose (codes "show") (exact_map Show (λ q ws is. (refl, is)) exact_query)
    (partly_choose (codes "queue") (exact_map (Submit true) (λ u ws is. (refl, is)) exact_update) (exact_map (Submit false) (λ u ws is. is) exact_update).partly)))))

-- an update that isn't queued begins by no other keyword of a job
job_submit : (u : Update) → Again job_at (update u) (Submit false u)
unfolding job_at choose turned update_at act_at
job_submit u =
    again_past (codes "settle") (ended Settle) (λ ws. (suc (length ws), refl)) (again_past (codes "pump") (ended Pump) (λ ws. (suc (length ws), refl))
    (again_past (codes "peek") (ended Peek) (λ ws. (suc (length ws), refl)) (again_past (codes "tables") (ended Tables) (λ ws. (suc (length ws), refl))
    (again_past (codes "show") (turned Show query_at) (λ ws. (suc (length ws), refl)) (again_past (codes "queue") (turned (Submit true) update_at) (λ ws. (suc (length ws), refl)) (again_map (Submit false) (update_again u)))))))

job_again : (j : Job) → Again job_at (job j) j
unfolding job_at
job_again Settle = again_here _ again_ended
job_again Pump = again_next _ _ refl (again_here _ again_ended)
job_again Peek = again_next _ _ refl (again_next _ _ refl (again_here _ again_ended))
job_again Tables = again_next _ _ refl (again_next _ _ refl (again_next _ _ refl (again_here _ again_ended)))
job_again (Show q) = again_next _ _ refl (again_next _ _ refl (again_next _ _ refl (again_next _ _ refl (again_here _ (again_map Show (query_again q))))))
job_again (Submit true u) = again_next _ _ refl (again_next _ _ refl (again_next _ _ refl (again_next _ _ refl (again_next _ _ refl (again_here _ (again_map (Submit true) (update_again u)))))))
job_again (Submit false u) = job_submit u

-- The lines.

exact_line : (c n : ℕ) → c ≤ 16 → Exact (line_at c n) (λ l ws. (l.line ≡ n) × AreWords (line c l) ws)
unfolding line_at
exact_line c n few = exact_one (number_class 0 (c - 1) (omega arith) (omega arith)) (λ w k k_is. exact_map (line_of n k) (λ j ws is. (refl, (k_is, is))) exact_job)

line_by : (c n k : ℕ) (j : Job) → c ≤ 16 → Again (line_at c n) (line c (line_of n k j)) (line_of n k j)
unfolding line_at
line_by c n k j few = again_one _ (number_class 0 (c - 1) (omega arith) (omega arith)) (again_map (line_of n k) (job_again j))

exact_start : Exact start_at (λ s ws. AreWords (start s) ws)
unfolding start_at caps_at
exact_start = exact_choose (codes "start") (exact_choose (codes "cold")
    (exact_map Cold (λ caps ws is. is) exact_caps) (partly_choose (codes "warm") (exact_one name_class (λ w n n_is. exact_ended (refl, (refl, (n_is, tt))))) partly_bad)) partly_bad
  where
    exact_caps : Exact caps_at (λ caps ws. AreWords (start (Cold caps)) (codes "start" ∷ codes "cold" ∷ ws))
    exact_caps =
        exact_one (number_class 0 65536 (omega arith) (omega arith)) (λ w l l_is. exact_one (number_class 0 65536 (omega arith) (omega arith)) (λ u h h_is.
        exact_one (number_class 0 4096 (omega arith) (omega arith)) (λ t g g_is. exact_one (number_class 0 65536 (omega arith) (omega arith)) (λ s r r_is. exact_ended (refl, (refl, (l_is, (h_is, (g_is, (r_is, tt))))))))))

start_again : (s : Start) → Again start_at (start s) s
unfolding start_at caps_at
start_again (Cold caps) = again_here _ (again_here _ (again_map Cold
    (again_one _ (number_class 0 65536 (omega arith) (omega arith)) (again_one _ (number_class 0 65536 (omega arith) (omega arith))
    (again_one _ (number_class 0 4096 (omega arith) (omega arith)) (again_one _ (number_class 0 65536 (omega arith) (omega arith)) again_ended))))))
start_again (Warm n) = again_here _ (again_next _ _ refl (again_here _ (again_one _ name_class again_ended)))

exact_limit : Exact limit_at (λ n ws. AreWords (limit n) ws)
unfolding limit_at
exact_limit = exact_choose (codes "limit") (exact_one (number_class 1 1000000 (omega arith) (omega arith)) (λ w n n_is. exact_ended (refl, (n_is, tt)))) partly_bad

limit_again : (n : ℕ) → Again limit_at (limit n) n
unfolding limit_at
limit_again n = again_here _ (again_one _ (number_class 1 1000000 (omega arith) (omega arith)) again_ended)

exact_callers : Exact callers_at (λ n ws. AreWords (callers n) ws)
unfolding callers_at
exact_callers = exact_choose (codes "callers") (exact_one (number_class 1 16 (omega arith) (omega arith)) (λ w n n_is. exact_ended (refl, (n_is, tt)))) partly_bad

callers_again : (n : ℕ) → Again callers_at (callers n) n
unfolding callers_at
callers_again n = again_here _ (again_one _ (number_class 1 16 (omega arith) (omega arith)) again_ended)

-- The entries.

partly_base : (cold : Bool) (c n : ℕ) → Partly (base_at cold n) (IsEntry (Called cold c) n)
unfolding base_at
partly_base true c n = partly_choose (codes "base") (exact_map (Bases n) (λ a ws is. (refl, refl, (refl, is))) exact_act) partly_bad
partly_base false c n = partly_bad

exact_entry : (s : Stage) (n : ℕ) → IsStage s → Exact (entry_at s n) (IsEntry s n)
unfolding entry_at phase_or
exact_entry Opening n in_range = exact_map Starts (λ s ws is. is) exact_start
exact_entry (Started cold) n in_range = exact_map Limits (λ m ws is. is) exact_limit
exact_entry (Limited cold) n in_range = exact_map Calls (λ c ws is. is) exact_callers
exact_entry (Called cold c) n in_range = exact_choose (codes "phase") (exact_ended (refl, tt)) (partly_base cold c n)
exact_entry (InPhase c) n in_range = exact_choose (codes "phase") (exact_ended (refl, tt)) (exact_map Does (λ l ws is. is) (exact_line c n in_range.1)).partly

phase_again : (other : List (List ℕ) → Result Entry ℕ) → Again (phase_or other) phase NewPhase
unfolding phase_or
phase_again other = again_here _ again_ended

base_again : (cold : Bool) (n : ℕ) (a : Act) → cold ≡ true → Again (phase_or (base_at cold n)) (base a) (Bases n a)
unfolding phase_or base_at
base_again true n a is = again_next _ _ refl (again_here _ (again_map (Bases n) (act_again a)))
base_again false n a is = absurd cc

does_again : (c n k : ℕ) (j : Job) → c ≤ 16 → Again (phase_or (turned Does (line_at c n))) (line c (line_of n k j)) (Does (line_of n k j))
unfolding phase_or turned line_at one number_of
does_again c n k j few = again_past (codes "phase") (ended NewPhase) (λ ws. (suc (length ws), refl)) (again_map Does (line_by c n k j few))

pub entry_again : (s : Stage) (n : ℕ) → IsStage s → (e : Entry) (ws : List (List ℕ)) → IsEntry s n e ws → entry_at s n ws ≡ Ok e
unfolding entry_at
entry_again Opening n in_range (Starts s) ws is = (again_map Starts (start_again s)).again ws is
entry_again (Started cold) n in_range (Limits m) ws is = (again_map Limits (limit_again m)).again ws is
entry_again (Limited cold) n in_range (Calls c) ws is = (again_map Calls (callers_again c)).again ws is
entry_again (Called cold c) n in_range (Bases m a) ws is = subst (λ (k : ℕ). phase_or (base_at cold n) ws ≡ Ok (Bases k a)) (sym is.1) ((base_again cold n a is.0).again ws is.2)
entry_again (Called cold c) n in_range NewPhase ws is = (phase_again (base_at cold n)).again ws is
entry_again (InPhase c) n in_range NewPhase ws is = (phase_again (turned Does (line_at c n))).again ws is
entry_again (InPhase c) n in_range (Does l) ws is = subst (λ (k : ℕ). phase_or (turned Does (line_at c n)) ws ≡ Ok (Does (line_of k l.caller l.job))) (sym is.0) ((does_again c n l.caller l.job in_range.1).again ws is.1)
entry_again Opening n in_range (Limits m) ws is = absurd is
entry_again Opening n in_range (Calls d) ws is = absurd is
entry_again Opening n in_range (Bases m a) ws is = absurd is
entry_again Opening n in_range NewPhase ws is = absurd is
entry_again Opening n in_range (Does l) ws is = absurd is
entry_again (Started cold) n in_range (Starts s) ws is = absurd is
entry_again (Started cold) n in_range (Calls d) ws is = absurd is
entry_again (Started cold) n in_range (Bases m a) ws is = absurd is
entry_again (Started cold) n in_range NewPhase ws is = absurd is
entry_again (Started cold) n in_range (Does l) ws is = absurd is
entry_again (Limited cold) n in_range (Starts s) ws is = absurd is
entry_again (Limited cold) n in_range (Limits m) ws is = absurd is
entry_again (Limited cold) n in_range (Bases m a) ws is = absurd is
entry_again (Limited cold) n in_range NewPhase ws is = absurd is
entry_again (Limited cold) n in_range (Does l) ws is = absurd is
entry_again (Called cold c) n in_range (Starts s) ws is = absurd is
entry_again (Called cold c) n in_range (Limits m) ws is = absurd is
entry_again (Called cold c) n in_range (Calls d) ws is = absurd is
entry_again (Called cold c) n in_range (Does l) ws is = absurd is
entry_again (InPhase c) n in_range (Starts s) ws is = absurd is
entry_again (InPhase c) n in_range (Limits m) ws is = absurd is
entry_again (InPhase c) n in_range (Calls d) ws is = absurd is
entry_again (InPhase c) n in_range (Bases m a) ws is = absurd is

pub is_found : (s : Stage) (n : ℕ) → IsStage s → (ws us : List (List ℕ)) (r : Result Entry ReadFault) → us ≡ ws → Gives (λ e. e) r (entry_at s n us) → IfOk r (λ e. IsEntry s n e ws)
is_found s n in_range ws us (Ok e) same given = subst (IsEntry s n e) same ((exact_entry s n in_range).partly.takes us e given)
is_found s n in_range ws us (Err f) same given = tt

pub is_fault : (s : Stage) (n : ℕ) → IsStage s → (ws us : List (List ℕ)) (r : Result Entry ReadFault) → us ≡ ws → Gives (λ e. e) r (entry_at s n us) → IfErr r (λ f. IsFault (IsAllowed s n) ws f)
is_fault s n in_range ws us (Ok e) same given = tt
is_fault s n in_range ws us (Err Memory) same given = tt
is_fault s n in_range ws us (Err (Left k)) same given = subst (λ (vs : List (List ℕ)). IsFault (IsAllowed s n) vs (Left k)) same (fault_is (entry_at s n) (IsEntry s n) (exact_entry s n in_range) (entry_again s n in_range) us k given)
