-- Of the words of a command, and of what was served.
use Rattle.std.proofs.Common.{◌≡◌, ◌≤◌, ◌+◌, ◌++◌, ℕ, List, [], ◌∷◌, Bool, Decides, Option, None, Some, Result, Ok, Err, OnOk, OnErr, length, get_or, map, eqb, refl, sym, ap, subst, ◌∙◌, arith, inl, inr, append-nil, length-append}
use Rattle.std.specs.Cmp.Lexicographic.{pointwise}
use Rattle.std.proofs.lemmas.Bool.Decides.{Decides-eqb}
use Rattle.std.proofs.lemmas.Slice.Eq.{slice_eq-Decides}
use Rattle.std.specs.Io.KnownBytes.{Appends}
use Rattle.io_edge.specs.Causes.{Rose, HasCause, WholeInput, ReadsPrefix, AppendsPrefix, Writes}
use Rattle.run_outcome.specs.declared.status.Status.{Status}
use Rattle.run_outcome.specs.declared.status.Status.TheVariants as status
use Rattle.run_outcome.specs.declared.refusal.Refusal.{Refusal}
use Rattle.run_outcome.specs.declared.refusal.Refusal.TheVariants.{Byte, Word, NotBuilt, Base, Opening, Saved}
use Rattle.run_outcome.specs.declared.refusal.RunFault.{RunFault}
use Rattle.run_outcome.specs.declared.refusal.RunFault.TheVariants as run
use Rattle.run_outcome.specs.Opening.{IsRunnable}
use Rattle.run_outcome.specs.Refusal.{refusal_line, status_of}
use Rattle.run_outcome.specs.Top.{Answered, CutShort, Declined, IsComplete, IsRefused, IsRunCommand, Misused, OrNoMemory, Outside, ReadsAll, Refused, Reported, Served, SinkStands, WritesNothing, longest_script}

pub one_word : {S : Type 0} (bytes : S → List ℕ) (xs : List S) (x : S) (text word : List ℕ) (r : Bool) → length xs ≡ 1 → x ≡ get_or xs 0 x → text ≡ bytes x → r ≡ pointwise eqb text word → Decides r (map bytes xs ≡ word ∷ [])
one_word bytes [] x text word r one at is test = absurd (omega arith)
one_word bytes (y ∷ z ∷ zs) x text word r one at is test = absurd (omega arith)
one_word bytes (y ∷ []) x text word r one at is test =
    let d = slice_eq-Decides Decides-eqb text word r test in
    (λ t. ap (λ b. b ∷ []) (ap bytes (sym at) ∙ sym is ∙ d.0 t), λ e. let same : bytes y ≡ word = cc in d.1 (is ∙ ap bytes at ∙ same))

-- what was read to the end is all that was left
whole_is : (left rest : Option (List ℕ)) (input all : List ℕ) → WholeInput left rest input → left ≡ Some all → input ≡ all
whole_is None rest input all whole is = absurd (cc)
whole_is (Some xs) None input all whole is = absurd whole.all
whole_is (Some xs) (Some ys) input all whole is =
    let same : xs ≡ all = cc in
    sym (whole.all ∙ ap (λ (l : List ℕ). input ++ l) whole.end ∙ append-nil input) ∙ same

-- no more can be read than was left
prefix_within : (left rest : Option (List ℕ)) (count : ℕ) (all : List ℕ) → ReadsPrefix left rest count → left ≡ Some all → count ≤ length all
prefix_within None rest count all part is = absurd (cc)
prefix_within (Some xs) None count all part is = absurd part.bytes
prefix_within (Some xs) (Some ys) count all part is =
    let same : xs ≡ all = cc in
    omega (arith, part.counted, length-append part.prefix ys, ap length part.bytes, ap length same)

-- what can be run isn't refused
no_refusal : (answer : Status) (old new : Outside) (input : List ℕ) → Refused answer old new → old.left ≡ Some input → IsRunnable input → ⊥
no_refusal answer old new input r left can = r.refused.never (subst IsRunnable (sym (whole_is old.left new.left r.input input r.read.whole left)) can)

pub served_complete : (sures : List Bool) (words : List (List ℕ)) (old new : Outside) (answer : Status) → Served sures words old new answer → IsComplete words old new answer
served_complete sures words old new status.Done served = λ input is_run left within is no_read no_write. inl refl
served_complete sures words old new status.NoMemory served = λ input is_run left within is no_read no_write. inr refl
served_complete sures words old new status.Words served = λ input is_run left within is no_read no_write. absurd (served.other is_run)
served_complete sures words old new status.ReadFault served = λ input is_run left within is no_read no_write. absurd (no_read served.1)
served_complete sures words old new status.WriteFault served = λ input is_run left within is no_read no_write. absurd (no_write served.1)
served_complete sures words old new status.Script served = λ input is_run left within is no_read no_write. absurd (no_refusal status.Script old new input served.1 left is)
served_complete sures words old new status.OpeningFull served = λ input is_run left within is no_read no_write. absurd (no_refusal status.OpeningFull old new input served.1 left is)
served_complete sures words old new status.TooLong served = λ input is_run left within is no_read no_write.
    absurd (omega (arith, within, prefix_within old.left new.left (longest_script + 1) input served.1 left))
served_complete sures words old new status.StoreFault served = absurd served
served_complete sures words old new status.Saved served = absurd served

pub served_done : (sures : List Bool) (words : List (List ℕ)) (old new : Outside) (answer : Status) → Served sures words old new answer → answer ≡ status.Done → Reported sures old new
served_done sures words old new answer served is = (subst (Served sures words old new) is served).1

pub served_words : (sures : List Bool) (words : List (List ℕ)) (old new : Outside) (answer : Status) → Served sures words old new answer → (IsRunCommand words → ⊥) → answer ≡ status.Words
served_words sures words old new status.Words served other = refl
served_words sures words old new status.Done served other = absurd (other served.0)
served_words sures words old new status.Script served other = absurd (other served.0)
served_words sures words old new status.OpeningFull served other = absurd (other served.0)
served_words sures words old new status.ReadFault served other = absurd (other served.0)
served_words sures words old new status.WriteFault served other = absurd (other served.0)
served_words sures words old new status.NoMemory served other = absurd (other served.0)
served_words sures words old new status.TooLong served other = absurd (other served.0)
served_words sures words old new status.StoreFault served other = absurd served
served_words sures words old new status.Saved served other = absurd served

pub served_misused : (sures : List Bool) (words : List (List ℕ)) (old new : Outside) (answer : Status) → Served sures words old new answer → answer ≡ status.Words → Misused words old new
served_misused sures words old new answer served is = subst (Served sures words old new) is served

pub served_script : (sures : List Bool) (words : List (List ℕ)) (old new : Outside) (answer : Status) → Served sures words old new answer → answer ≡ status.Script → Refused status.Script old new
served_script sures words old new answer served is = (subst (Served sures words old new) is served).1

pub served_full : (sures : List Bool) (words : List (List ℕ)) (old new : Outside) (answer : Status) → Served sures words old new answer → answer ≡ status.OpeningFull → Refused status.OpeningFull old new
served_full sures words old new answer served is = (subst (Served sures words old new) is served).1

pub served_read_fault : (sures : List Bool) (words : List (List ℕ)) (old new : Outside) (answer : Status) → Served sures words old new answer → answer ≡ status.ReadFault → Rose old.read_faults new.read_faults
served_read_fault sures words old new answer served is = (subst (Served sures words old new) is served).1

pub served_write_fault : (sures : List Bool) (words : List (List ℕ)) (old new : Outside) (answer : Status) → Served sures words old new answer → answer ≡ status.WriteFault → Rose old.write_faults new.write_faults
served_write_fault sures words old new answer served is = (subst (Served sures words old new) is served).1

pub served_cut_short : (sures : List Bool) (words : List (List ℕ)) (old new : Outside) (answer : Status) → Served sures words old new answer → answer ≡ status.WriteFault → CutShort sures old new
served_cut_short sures words old new answer served is = (subst (Served sures words old new) is served).2

pub served_too_long : (sures : List Bool) (words : List (List ℕ)) (old new : Outside) (answer : Status) → Served sures words old new answer → answer ≡ status.TooLong → ReadsPrefix old.left new.left (longest_script + 1)
served_too_long sures words old new answer served is = (subst (Served sures words old new) is served).1

pub served_nothing : (sures : List Bool) (words : List (List ℕ)) (old new : Outside) (answer : Status) → Served sures words old new answer → WritesNothing answer old new
served_nothing sures words old new status.Done served = tt
served_nothing sures words old new status.Words served = tt
served_nothing sures words old new status.Script served = tt
served_nothing sures words old new status.WriteFault served = tt
served_nothing sures words old new status.OpeningFull served = tt
served_nothing sures words old new status.ReadFault served = served.2
served_nothing sures words old new status.NoMemory served = served.1
served_nothing sures words old new status.TooLong served = served.2
served_nothing sures words old new status.StoreFault served = absurd served
served_nothing sures words old new status.Saved served = tt

-- what was done for the whole input
pub served_answer : (sures : List Bool) (words : List (List ℕ)) (input : List ℕ) (old new : Outside) (answer : Status) → IsRunCommand words → ReadsAll old new input → Answered sures input old.written new.written old.write_faults new.write_faults answer → Served sures words old new answer
served_answer sures words input old new status.Done is_run all done = (is_run, record { input = input; text = done.0; read = all; report = done.1; written = done.2 })
served_answer sures words input old new status.Script is_run all done = (is_run, record { input = input; refusal = done.0; read = all; refused = done.1; written = done.2 })
served_answer sures words input old new status.OpeningFull is_run all done = (is_run, record { input = input; refusal = done.0; read = all; refused = done.1; written = done.2 })
served_answer sures words input old new status.WriteFault is_run all done = let it = done.1 in (is_run, done.0, record { input = input; text = it.0; read = all; report = it.1; written = it.2 })
served_answer sures words input old new status.NoMemory is_run all done = (is_run, done)
served_answer sures words input old new status.Words is_run all done = absurd done
served_answer sures words input old new status.ReadFault is_run all done = absurd done
served_answer sures words input old new status.TooLong is_run all done = absurd done
served_answer sures words input old new status.StoreFault is_run all done = absurd done
served_answer sures words input old new status.Saved is_run all done = absurd done

-- a line that was to be written
pub writes_line : {A E : Type 0} (r : Result A E) (old new : Option (List ℕ)) (before now : ℕ) (text : List ℕ) → OnOk r (Appends old new text) → OnErr r (AppendsPrefix old new text) → HasCause before now r → Writes old new before now text
writes_line (Ok x) old new before now text all part cause = inl (all, cause.quiet)
writes_line (Err e) old new before now text all part cause = inr (part, cause.failed)

-- a refusal has one of three statuses
abbrev IsRefusing : Status → Type 0
IsRefusing status.Script = Unit {0}
IsRefusing status.OpeningFull = Unit {0}
IsRefusing status.Saved = Unit {0}
IsRefusing answer = ⊥

one_of_three : (refusal : Refusal) → IsRefusing (status_of refusal)
one_of_three (Byte line) = tt
one_of_three (Word line word) = tt
one_of_three NotBuilt = tt
one_of_three (Base line reason) = tt
one_of_three (Opening table) = tt
one_of_three (Saved why) = tt

refusing : (refusal : Refusal) (answer : Status) → answer ≡ status_of refusal → IsRefusing answer
refusing refusal answer is = subst IsRefusing (sym is) (one_of_three refusal)

-- an error line may be cut short
pub error_stands : (refusal : Refusal) (before now : ℕ) → SinkStands (status_of refusal) before now
error_stands (Byte line) before now = tt
error_stands (Word line word) before now = tt
error_stands NotBuilt before now = tt
error_stands (Base line reason) before now = tt
error_stands (Opening table) before now = tt
error_stands (Saved why) before now = tt

-- an error line that was to be written
pub declined : {A E : Type 0} (r : Result A E) (old new : Option (List ℕ)) (before now : ℕ) (refusal : Refusal) (line : List ℕ) (answer : Status) → line ≡ refusal_line refusal → answer ≡ status_of refusal → OnOk r (Appends old new line) → OnErr r (AppendsPrefix old new line) → HasCause before now r → Declined refusal old new before now answer
declined r old new before now refusal line answer line_is answer_is all part cause =
    let written : Writes old new before now (refusal_line refusal) = subst (Writes old new before now) line_is (writes_line r old new before now line all part cause) in
    told answer answer_is written
  where
    told : (answer : Status) → answer ≡ status_of refusal → Writes old new before now (refusal_line refusal) → Declined refusal old new before now answer
    told status.Done is written = (is, written)
    told status.Words is written = (is, written)
    told status.Script is written = (is, written)
    told status.ReadFault is written = (is, written)
    told status.WriteFault is written = (is, written)
    told status.TooLong is written = (is, written)
    told status.OpeningFull is written = (is, written)
    told status.StoreFault is written = (is, written)
    told status.Saved is written = (is, written)
    told status.NoMemory is written = absurd (refusing refusal status.NoMemory is)

-- bytes that aren't run are no saved text
abbrev IsOfSaved : Status → Type 0
IsOfSaved status.Saved = Unit {0}
IsOfSaved answer = ⊥

not_saved : (bytes : List ℕ) (refusal : Refusal) → IsRefused bytes refusal → status.Saved ≡ status_of refusal → ⊥
not_saved bytes (Byte line) refused is = subst IsOfSaved is tt
not_saved bytes (Word line word) refused is = subst IsOfSaved is tt
not_saved bytes NotBuilt refused is = subst IsOfSaved is tt
not_saved bytes (Base line reason) refused is = subst IsOfSaved is tt
not_saved bytes (Opening table) refused is = subst IsOfSaved is tt
not_saved bytes (Saved why) refused is = refused.2.1

-- a refusal as an answer
refused_answer : (sures : List Bool) (bytes : List ℕ) (refusal : Refusal) (old new : Option (List ℕ)) (before now : ℕ) (answer : Status) → IsRefused bytes refusal → (IsRunnable bytes → ⊥) → Declined refusal old new before now answer → Answered sures bytes old new before now answer
refused_answer sures bytes refusal old new before now status.Script is never told = (refusal, record { reason = is; never = never; is = told.0 }, told.1)
refused_answer sures bytes refusal old new before now status.OpeningFull is never told = (refusal, record { reason = is; never = never; is = told.0 }, told.1)
refused_answer sures bytes refusal old new before now status.NoMemory is never told = told
refused_answer sures bytes refusal old new before now status.Done is never told = absurd (refusing refusal status.Done told.0)
refused_answer sures bytes refusal old new before now status.Words is never told = absurd (refusing refusal status.Words told.0)
refused_answer sures bytes refusal old new before now status.ReadFault is never told = absurd (refusing refusal status.ReadFault told.0)
refused_answer sures bytes refusal old new before now status.WriteFault is never told = absurd (refusing refusal status.WriteFault told.0)
refused_answer sures bytes refusal old new before now status.TooLong is never told = absurd (refusing refusal status.TooLong told.0)
refused_answer sures bytes refusal old new before now status.StoreFault is never told = absurd (refusing refusal status.StoreFault told.0)
refused_answer sures bytes refusal old new before now status.Saved is never told = absurd (not_saved bytes refusal is told.0)

pub fault_answer : (sures : List Bool) (bytes : List ℕ) (fault : RunFault) (refusal : Refusal) (old new : Option (List ℕ)) (before now : ℕ) (answer : Status) → fault ≡ run.Refused refusal → OrNoMemory (IsRefused bytes) fault → (IsRunnable bytes → fault ≡ run.NoMemory) → Declined refusal old new before now answer → Answered sures bytes old new before now answer
fault_answer sures bytes fault refusal old new before now answer is given only told =
    let never : IsRunnable bytes → ⊥ = λ can. not_memory refusal (sym is ∙ only can) in
    refused_answer sures bytes refusal old new before now answer (subst (OrNoMemory (IsRefused bytes)) is given) never told
  where
    not_memory : (refusal : Refusal) → run.Refused refusal ≡ run.NoMemory → ⊥
    not_memory refusal e = cc
