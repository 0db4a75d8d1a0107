-- The summary of generated work.
use Rattle.std.specs.Prelude.{ℕ, List, ◌++◌, codes}
use Rattle.std.specs.Fmt.{decimal}
use Rattle.work_summary.specs.Digest.{hex_digest}
use Rattle.work_summary.specs.declared.summary.Outcome.{Outcome}
use Rattle.work_summary.specs.declared.summary.RowCounts.{RowCounts}
use Rattle.work_summary.specs.declared.summary.VerdictCounts.{VerdictCounts}

-- the seed, and how many updates were drawn
abbrev pub work_line : ℕ → ℕ → List ℕ
work_line seed count = codes "gen " ++ (decimal seed ++ (codes " " ++ (decimal count ++ codes "\n")))

-- how many entries the journal has, and how many of each verdict
abbrev pub entries_line : VerdictCounts → List ℕ
entries_line v = codes "entries " ++ (decimal v.entries ++ (codes " accepted " ++ (decimal v.accepted
    ++ (codes " invalid " ++ (decimal v.invalid ++ (codes " full " ++ (decimal v.full ++ codes "\n")))))))

-- how many rounds there were, and the version after them
abbrev pub rounds_line : ℕ → ℕ → List ℕ
rounds_line rounds version = codes "rounds " ++ (decimal rounds ++ (codes " version " ++ (decimal version ++ codes "\n")))

-- how many rows each table has
abbrev pub tables_line : RowCounts → List ℕ
tables_line r = codes "tables l2 " ++ (decimal r.l2 ++ (codes " host " ++ (decimal r.host
    ++ (codes " group " ++ (decimal r.group ++ (codes " route " ++ (decimal r.route ++ codes "\n")))))))

-- the digest of the journal's lines, line feeds included
abbrev pub digest_line : List ℕ → List ℕ
digest_line journal = codes "digest " ++ (hex_digest journal ++ codes "\n")

-- the summary of what work came to, where the journal's lines of rounds and entries are these bytes
abbrev pub summary_text : Outcome → List ℕ → List ℕ
summary_text o journal = work_line o.seed o.count ++ (entries_line o.verdicts ++ (rounds_line o.rounds o.version
    ++ (tables_line o.rows ++ (digest_line journal ++ codes "end\n"))))
