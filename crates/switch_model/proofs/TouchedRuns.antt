-- What the updates of a run touch, one after another.
use Rattle.std.proofs.Common.{◌≡◌, ℕ, List, [], ◌∷◌, map, refl, ap, ◌∙◌, append_assoc, append-nil}
use Rattle.net_types.specs.declared.table.L2Key.{L2Key}
use Rattle.switch_model.specs.declared.act.Update.{Update}
use Rattle.switch_model.specs.declared.journal.Entry.{Entry}
use Rattle.switch_model.specs.declared.key.NeighborKey.{NeighborKey}
use Rattle.switch_model.specs.declared.key.RibKey.{RibKey}
use Rattle.switch_model.specs.declared.verdict.Verdict.{Verdict}
use Rattle.switch_model.specs.Journal.{after_verdict}
use Rattle.switch_model.specs.Legal.{AreRightInRun}
use Rattle.switch_model.specs.PlainState.{PlainState}
use Rattle.switch_model.specs.Touched.{Touched, touched_both, touched_entries, touched_run, touched_verdict, untouched}

fields : {a b : Touched} → a.vlans ≡ b.vlans → a.ports ≡ b.ports → a.intfs ≡ b.intfs → a.macs ≡ b.macs → a.arps ≡ b.arps → a.ndps ≡ b.ndps → a.routes ≡ b.routes → a ≡ b
fields {a} {b} vlans ports intfs macs arps ndps routes =
    ap (λ (x : List ℕ). record a { vlans = x }) vlans
    ∙ ap (λ (x : List ℕ). record a { vlans = b.vlans; ports = x }) ports
    ∙ ap (λ (x : List ℕ). record a { vlans = b.vlans; ports = b.ports; intfs = x }) intfs
    ∙ ap (λ (x : List L2Key). record a { vlans = b.vlans; ports = b.ports; intfs = b.intfs; macs = x }) macs
    ∙ ap (λ (x : List NeighborKey). record b { arps = x; ndps = a.ndps; routes = a.routes }) arps
    ∙ ap (λ (x : List NeighborKey). record b { ndps = x; routes = a.routes }) ndps
    ∙ ap (λ (x : List RibKey). record b { routes = x }) routes

pub both_assoc : (a b c : Touched) → touched_both (touched_both a b) c ≡ touched_both a (touched_both b c)
both_assoc a b c = fields (append_assoc a.vlans b.vlans c.vlans) (append_assoc a.ports b.ports c.ports) (append_assoc a.intfs b.intfs c.intfs) (append_assoc a.macs b.macs c.macs) (append_assoc a.arps b.arps c.arps) (append_assoc a.ndps b.ndps c.ndps) (append_assoc a.routes b.routes c.routes)

pub both_none : (a : Touched) → touched_both a untouched ≡ a
both_none a = fields (append-nil a.vlans) (append-nil a.ports) (append-nil a.intfs) (append-nil a.macs) (append-nil a.arps) (append-nil a.ndps) (append-nil a.routes)

-- entries with the verdicts of a run
pub judged_touch : (m : PlainState) (es : List Entry) → AreRightInRun m es → touched_entries m es ≡ touched_run m (map (λ e. e.update) es)
judged_touch m [] are = refl
judged_touch m (e ∷ es) are =
    let us : List Update = map (λ (x : Entry). x.update) es in
    ap (λ (t : Touched). touched_both (touched_verdict m e.update e.verdict) t) (judged_touch (after_verdict m e.update e.verdict) es are.1)
    ∙ ap (λ (v : Verdict). touched_both (touched_verdict m e.update v) (touched_run (after_verdict m e.update v) us)) are.0
