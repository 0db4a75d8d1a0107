use Rattle.switch_model.specs.PlainState.{rib}
use Rattle.switch_state.specs.Plain.{plain}
use Rattle.fib_moved.proofs.KeysLaws.{by-both-of, by-routes-of, view-of}
use Rattle.fib_moved.proofs.keys.candidates.Goals as goal

pub returns-in_ok-keys : goal.returns-in_ok-keys
returns-in_ok-keys c = by-both-of (rib (plain c.args.old.now)) (rib (plain c.args.edit.now.state)) c.of-before.result c.of-now.result c.in_ok-keys.keys.items
    (view-of c.args.old.now c.routes.result.now c.intfs-then-differs.result.now c.of-before.result c.of-before.ensures c.routes.ensures.map c.intfs-then-differs.ensures.map)
    (view-of c.args.edit.now.state c.routes-then-differs.result.now c.intfs-then-differs-2.result.now c.of-now.result c.of-now.ensures c.routes-then-differs.ensures.map c.intfs-then-differs-2.ensures.map)
    c.in_ok-keys.ensures

pub returns-in_ok-keys-2 : goal.returns-in_ok-keys-2
returns-in_ok-keys-2 c = by-routes-of c.args.old.now c.args.edit.now.state c.shape.ensures.state c.shape-2.ensures.state c.in_ok-keys-2.keys.items c.intfs.result.now c.intfs-2.result.now c.routes-else-differs.result.now c.routes-else-differs-2.result.now
    c.intfs.ensures.map c.intfs-2.ensures.map c.routes-else-differs.ensures.map c.routes-else-differs-2.ensures.map (c.differs.ensures c.if-differs.false) c.in_ok-keys-2.ensures
