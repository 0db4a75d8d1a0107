-- The report of a run.
use Rattle.std.specs.Prelude.{ℕ, ◌+◌, Bool, List, [], ◌∷◌, ◌++◌, length, codes, if◌then◌else◌}
use Rattle.std.specs.Fmt.{decimal}
use Rattle.answer_forms.specs.AnswerText.{totals_text}
use Rattle.net_types.specs.declared.table.Caps.{Caps}
use Rattle.net_types.specs.Rows.{Rows}
use Rattle.switch_model.specs.declared.journal.Round.{Round}
use Rattle.switch_model.specs.declared.record.Totals.{Totals}
use Rattle.switch_model.specs.declared.reply.Reply.{Reply}
use Rattle.switch_model.specs.Journal.{Journal, entries_of, version_after}
use Rattle.report_text.specs.EntryText.{replies_text, rounds_text}
use Rattle.report_text.specs.RowText.{rows_text}

abbrev pub caps_text : Caps → List ℕ
caps_text caps = decimal caps.l2 ++ (codes " " ++ (decimal caps.host ++ (codes " " ++ (decimal caps.group ++ (codes " " ++ decimal caps.route)))))

-- how the run was opened
abbrev pub head_part : Bool → Caps → ℕ → List ℕ
head_part warm caps version =
    codes "report 1\nstart " ++ ((if warm then codes "warm" else codes "cold") ++ (codes " version " ++ (decimal version ++ (codes "\ncaps " ++ (caps_text caps ++ codes "\n")))))

abbrev pub replies_part : List (ℕ × Reply) → List ℕ
replies_part replies = codes "replies " ++ (decimal (length replies) ++ (codes "\n" ++ replies_text replies))

-- how many entries and rounds a journal has, and the version after them
abbrev pub journal_line : ℕ → ℕ → ℕ → List ℕ
journal_line entries rounds version = codes "journal entries " ++ (decimal entries ++ (codes " rounds " ++ (decimal rounds ++ (codes " version " ++ (decimal version ++ codes "\n")))))

-- the rounds that follow a version, behind that line
abbrev pub journal_part : ℕ → List Round → List ℕ
journal_part version rounds =
    let all = entries_of rounds in journal_line (length all) (length rounds) (version_after version all) ++ rounds_text 0 0 version rounds

-- a line for each observer, from that number on: the version and the counts at which it stands
abbrev pub observers_text : ℕ → List (ℕ × Totals) → List ℕ
observers_text k [] = []
observers_text k (s ∷ ss) = codes "observer " ++ (decimal k ++ (codes " version " ++ (decimal s.0 ++ (codes " " ++ (totals_text s.1 ++ (codes "\n" ++ observers_text (k + 1) ss))))))

abbrev pub observers_part : List (ℕ × Totals) → List ℕ
observers_part standings = codes "observers " ++ (decimal (length standings) ++ (codes "\n" ++ (observers_text 0 standings ++ codes "end\n")))

-- the report of rounds after an opening, with the rows of the chip's tables, and where the observers stand
abbrev pub report_of : Bool → Caps → ℕ → List Round → List (ℕ × Reply) → Rows → List (ℕ × Totals) → List ℕ
report_of warm caps version rounds replies rows standings =
    head_part warm caps version ++ (replies_part replies ++ (journal_part version rounds ++ (rows_text rows ++ observers_part standings)))

-- the report of a journal and of what its callers were told
abbrev pub report : Bool → Journal → List (ℕ × Reply) → Rows → List (ℕ × Totals) → List ℕ
report warm j replies rows standings = report_of warm j.opening.caps j.opening.version j.rounds replies rows standings
