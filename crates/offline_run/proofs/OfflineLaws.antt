-- What was served.
use Rattle.std.proofs.Common.{◌≡◌, ℕ, List, Option, subst, sym, refl, inl, inr}
use Rattle.run_outcome.specs.declared.refusal.Refusal.TheVariants.{Saved}
use Rattle.run_outcome.specs.declared.refusal.SavedRefusal.{SavedRefusal}
use Rattle.run_outcome.specs.declared.status.Status.{Status}
use Rattle.run_outcome.specs.declared.status.Status.TheVariants as status
use Rattle.run_outcome.specs.Top.{Declined}
use Rattle.offline_run.specs.Check.{IsRefusedFor}
use Rattle.offline_run.specs.Offline.{AnsweredText, CheckedAs, Edges, IsCheckOf, IsCompleteCheck, IsLoaded, ServedOffline, TellsOfLength, TellsOfRefusal, TellsOfWords, longest_saved}
use Rattle.offline_run.proofs.TextLaws.{not_longer, same_name, same_text, taken_once}
use Rattle.offline_run.specs.Check.{IsTakenOver}

-- it is the status of a saved text that isn't taken over
abbrev IsOfSaved : Status → Type 0
IsOfSaved status.Saved = Unit {0}
IsOfSaved answer = ⊥

of_saved : (answer : Status) → answer ≡ status.Saved → IsOfSaved answer
of_saved answer is = subst IsOfSaved (sym is) tt

-- a refusal as an answer
pub refused_answer : (bytes : List ℕ) (why : SavedRefusal) (old new : Option (List ℕ)) (before now : ℕ) (answer : Status) → IsRefusedFor bytes why → Declined (Saved why) old new before now answer → AnsweredText bytes old new before now answer
refused_answer bytes why old new before now status.Saved is told = (why, is, told.1)
refused_answer bytes why old new before now status.NoMemory is told = told
refused_answer bytes why old new before now status.Done is told = absurd (of_saved status.Done told.0)
refused_answer bytes why old new before now status.Words is told = absurd (of_saved status.Words told.0)
refused_answer bytes why old new before now status.Script is told = absurd (of_saved status.Script told.0)
refused_answer bytes why old new before now status.ReadFault is told = absurd (of_saved status.ReadFault told.0)
refused_answer bytes why old new before now status.WriteFault is told = absurd (of_saved status.WriteFault told.0)
refused_answer bytes why old new before now status.StoreFault is told = absurd (of_saved status.StoreFault told.0)
refused_answer bytes why old new before now status.TooLong is told = absurd (of_saved status.TooLong told.0)
refused_answer bytes why old new before now status.OpeningFull is told = absurd (of_saved status.OpeningFull told.0)

-- what was answered for the text that stands under the name
pub checked : (name bytes : List ℕ) (old new : Edges) (answer : Status) → IsLoaded name old bytes → AnsweredText bytes old.written new.written old.write_faults new.write_faults answer → CheckedAs name old new answer
checked name bytes old new status.Done loaded done = record { bytes = bytes; line = done.0; loaded = loaded; tells = done.1; written = done.2 }
checked name bytes old new status.Saved loaded done = record { bytes = bytes; why = done.0; loaded = loaded; refused = done.1; written = done.2 }
checked name bytes old new status.WriteFault loaded done = let it = done.1 in (done.0, record { bytes = bytes; line = it.0; loaded = loaded; tells = it.1; written = it.2 })
checked name bytes old new status.NoMemory loaded done = done
checked name bytes old new status.Words loaded done = absurd done
checked name bytes old new status.Script loaded done = absurd done
checked name bytes old new status.ReadFault loaded done = absurd done
checked name bytes old new status.StoreFault loaded done = absurd done
checked name bytes old new status.TooLong loaded done = absurd done
checked name bytes old new status.OpeningFull loaded done = absurd done

-- what was done for the name that the words ask for
pub served : (words : List (List ℕ)) (name : List ℕ) (old new : Edges) (answer : Status) → IsCheckOf name words → CheckedAs name old new answer → ServedOffline words old new answer
served words name old new status.Words asked done = absurd done
served words name old new status.NoMemory asked done = done
served words name old new status.Done asked done = record { name = name; asked = asked; done = done }
served words name old new status.Saved asked done = record { name = name; asked = asked; done = done }
served words name old new status.Script asked done = record { name = name; asked = asked; done = done }
served words name old new status.ReadFault asked done = record { name = name; asked = asked; done = done }
served words name old new status.WriteFault asked done = record { name = name; asked = asked; done = done }
served words name old new status.StoreFault asked done = record { name = name; asked = asked; done = done }
served words name old new status.TooLong asked done = record { name = name; asked = asked; done = done }
served words name old new status.OpeningFull asked done = record { name = name; asked = asked; done = done }

-- words that ask for no check
pub words_told : (words : List (List ℕ)) (old new : Edges) (answer : Status) → ServedOffline words old new answer → TellsOfWords words answer
words_told words old new status.Done done = λ other. absurd (other done.name done.asked)
words_told words old new status.Words done = λ other. inl refl
words_told words old new status.Saved done = λ other. absurd (other done.name done.asked)
words_told words old new status.StoreFault done = λ other. absurd (other done.name done.asked)
words_told words old new status.WriteFault done = λ other. absurd (other done.name done.asked)
words_told words old new status.TooLong done = λ other. absurd (other done.name done.asked)
words_told words old new status.NoMemory done = λ other. inr refl
words_told words old new status.Script done = λ other. absurd (other done.name done.asked)
words_told words old new status.ReadFault done = λ other. absurd (other done.name done.asked)
words_told words old new status.OpeningFull done = λ other. absurd (other done.name done.asked)

-- a text that is too long
pub length_told : (words : List (List ℕ)) (old new : Edges) (answer : Status) → ServedOffline words old new answer → TellsOfLength words old new answer
length_told words old new status.Done done = λ name texts asked told longer fine. absurd (not_longer old.texts texts done.name name done.done.bytes longest_saved told (same_name words done.name name done.asked asked) done.done.loaded.stands done.done.loaded.within longer)
length_told words old new status.Words done = λ name texts asked told longer fine. absurd (done.other name asked)
length_told words old new status.Saved done = λ name texts asked told longer fine. absurd (not_longer old.texts texts done.name name done.done.bytes longest_saved told (same_name words done.name name done.asked asked) done.done.loaded.stands done.done.loaded.within longer)
length_told words old new status.StoreFault done = λ name texts asked told longer fine. absurd (fine done.done.0)
length_told words old new status.WriteFault done = λ name texts asked told longer fine. absurd (not_longer old.texts texts done.name name done.done.1.bytes longest_saved told (same_name words done.name name done.asked asked) done.done.1.loaded.stands done.done.1.loaded.within longer)
length_told words old new status.TooLong done = λ name texts asked told longer fine. inl refl
length_told words old new status.NoMemory done = λ name texts asked told longer fine. inr refl
length_told words old new status.Script done = λ name texts asked told longer fine. absurd done.done
length_told words old new status.ReadFault done = λ name texts asked told longer fine. absurd done.done
length_told words old new status.OpeningFull done = λ name texts asked told longer fine. absurd done.done

-- a text that isn't taken over
pub refusal_told : (words : List (List ℕ)) (old new : Edges) (answer : Status) → ServedOffline words old new answer → TellsOfRefusal words old new answer
refusal_told words old new status.Done done = λ name bytes texts why asked told loaded refused fine. absurd (taken_once done.done.bytes done.done.tells.contents why done.done.tells.taken (subst (λ (b : List ℕ). IsRefusedFor b why) (same_text old.texts texts name done.name bytes done.done.bytes told (same_name words name done.name asked done.asked) loaded.stands done.done.loaded.stands) refused))
refusal_told words old new status.Words done = λ name bytes texts why asked told loaded refused fine. absurd (done.other name asked)
refusal_told words old new status.Saved done = λ name bytes texts why asked told loaded refused fine. inl refl
refusal_told words old new status.StoreFault done = λ name bytes texts why asked told loaded refused fine. absurd (fine done.done.0)
refusal_told words old new status.WriteFault done = λ name bytes texts why asked told loaded refused fine. absurd (taken_once done.done.1.bytes done.done.1.tells.contents why done.done.1.tells.taken (subst (λ (b : List ℕ). IsRefusedFor b why) (same_text old.texts texts name done.name bytes done.done.1.bytes told (same_name words name done.name asked done.asked) loaded.stands done.done.1.loaded.stands) refused))
refusal_told words old new status.TooLong done = λ name bytes texts why asked told loaded refused fine. absurd (not_longer old.texts texts name done.name bytes longest_saved told (same_name words name done.name asked done.asked) loaded.stands loaded.within done.done.0)
refusal_told words old new status.NoMemory done = λ name bytes texts why asked told loaded refused fine. inr refl
refusal_told words old new status.Script done = λ name bytes texts why asked told loaded refused fine. absurd done.done
refusal_told words old new status.ReadFault done = λ name bytes texts why asked told loaded refused fine. absurd done.done
refusal_told words old new status.OpeningFull done = λ name bytes texts why asked told loaded refused fine. absurd done.done

-- a text that is taken over
pub check_complete : (words : List (List ℕ)) (old new : Edges) (answer : Status) → ServedOffline words old new answer → IsCompleteCheck words old new answer
check_complete words old new status.Done done = λ name bytes texts c asked told loaded taken fine whole. inl refl
check_complete words old new status.Words done = λ name bytes texts c asked told loaded taken fine whole. absurd (done.other name asked)
check_complete words old new status.Saved done = λ name bytes texts c asked told loaded taken fine whole. absurd (taken_once done.done.bytes c done.done.why (subst (λ (b : List ℕ). IsTakenOver b c) (same_text old.texts texts name done.name bytes done.done.bytes told (same_name words name done.name asked done.asked) loaded.stands done.done.loaded.stands) taken) done.done.refused)
check_complete words old new status.StoreFault done = λ name bytes texts c asked told loaded taken fine whole. absurd (fine done.done.0)
check_complete words old new status.WriteFault done = λ name bytes texts c asked told loaded taken fine whole. absurd (whole done.done.0)
check_complete words old new status.TooLong done = λ name bytes texts c asked told loaded taken fine whole. absurd (not_longer old.texts texts name done.name bytes longest_saved told (same_name words name done.name asked done.asked) loaded.stands loaded.within done.done.0)
check_complete words old new status.NoMemory done = λ name bytes texts c asked told loaded taken fine whole. inr refl
check_complete words old new status.Script done = λ name bytes texts c asked told loaded taken fine whole. absurd done.done
check_complete words old new status.ReadFault done = λ name bytes texts c asked told loaded taken fine whole. absurd done.done
check_complete words old new status.OpeningFull done = λ name bytes texts c asked told loaded taken fine whole. absurd done.done
