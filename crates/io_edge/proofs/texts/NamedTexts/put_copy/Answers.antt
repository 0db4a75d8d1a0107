use Rattle.std.proofs.Common.{◌≡◌, ◌<◌, ℕ, List, length, None, Some, Result, Ok, Err, OnErr, Vec, Global, ap, ◌∙◌}
use Rattle.std.proofs.lemmas.Result.{on_ok_weaker, on_err_weaker}
use Rattle.io_edge.specs.Texts.{Texts, text_of, with_text, NeedsMemory}
use Rattle.io_edge.proofs.Places.{look_none, look_some, change_text}
use Rattle.io_edge.proofs.texts.NamedTexts.put_copy.Goals as goal

from_missing : {T E : Type 0} (r : Result T E) (name bytes : List ℕ) (texts : Texts) → text_of name texts ≡ None → OnErr r (NeedsMemory name bytes texts)
from_missing (Ok v) name bytes texts none = tt
from_missing (Err e) name bytes texts none = rw none tt

from_shorter : (name bytes old : List ℕ) (texts : Texts) → text_of name texts ≡ Some old → length old < length bytes → NeedsMemory name bytes texts
from_shorter name bytes old texts some shorter = rw some shorter

pub returns-in_err-copy_name-in-None-clause-refused : goal.returns-in_err-copy_name-in-None-clause-refused
returns-in_err-copy_name-in-None-clause-refused c = from_missing _ c.args.name.now c.args.text.now c.args.self.now (look_none (λ (v : Vec ℕ Global). v.items) c.args.name.now c.deref.result.now c.self.inside.entries.items _ _ c.deref.ensures.value c.place_of.ensures c.in-None.is c.self.view_is)

pub returns-in_err-to_vec-in-None-clause-refused : goal.returns-in_err-to_vec-in-None-clause-refused
returns-in_err-to_vec-in-None-clause-refused c = from_missing _ c.args.name.now c.args.text.now c.args.self.now (look_none (λ (v : Vec ℕ Global). v.items) c.args.name.now c.deref.result.now c.self.inside.entries.items _ _ c.deref.ensures.value c.place_of.ensures c.in-None.is c.self.view_is)

pub returns-in_ok-to_vec-in-None-clause-refused : goal.returns-in_ok-to_vec-in-None-clause-refused
returns-in_ok-to_vec-in-None-clause-refused c = from_missing _ c.args.name.now c.args.text.now c.args.self.now (look_none (λ (v : Vec ℕ Global). v.items) c.args.name.now c.deref.result.now c.self.inside.entries.items _ _ c.deref.ensures.value c.place_of.ensures c.in-None.is c.self.view_is)

pub returns-in-Some-clause-ok : goal.returns-in-Some-clause-ok
returns-in-Some-clause-ok c = on_ok_weaker c.overwrite.result (λ written. change_text (λ (v : Vec ℕ Global). v.items) c.args.name.now c.deref.result.now c.self.inside.entries.items _ _ c.in-Some.at c.index_mut.result.now c.overwrite.new.old c.deref.ensures.value c.place_of.ensures c.in-Some.is c.self.view_is c.index_mut.ensures.value ∙ ap (λ text. with_text c.args.name.now text c.args.self.now) written) c.overwrite.ensures.ok

pub returns-in-Some-clause-refused : goal.returns-in-Some-clause-refused
returns-in-Some-clause-refused c = on_err_weaker c.overwrite.result (λ shorter. from_shorter c.args.name.now c.args.text.now _ c.args.self.now (look_some (λ (v : Vec ℕ Global). v.items) c.args.name.now c.deref.result.now c.self.inside.entries.items _ _ _ c.index_mut.result.now c.deref.ensures.value c.place_of.ensures c.in-Some.is c.self.view_is c.index_mut.ensures.value) shorter) c.overwrite.ensures.refused
