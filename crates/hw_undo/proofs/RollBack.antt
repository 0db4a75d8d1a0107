-- The way back over a log of writes.
use Rattle.std.proofs.Common.{◌≡◌, ◌≤◌, ◌+◌, ℕ, List, [], ◌∷◌, ◌++◌, refl, sym, ap, ◌∙◌, subst, arith}
use Rattle.net_types.specs.declared.table.Caps.{Caps}
use Rattle.net_types.specs.declared.table.Tables.{Tables}
use Rattle.hw_undo.specs.Moments.{Moment, AreNoted, AreNotedButWhere, AreNotedUpTo, AreNotedUpToWhere, AreNotedWhere}
use Rattle.hw_undo.specs.Undo.{AreUndoable, GroupChanges, IsUndoable, rolled_back, undone}
use Rattle.hw_undo.specs.declared.write.Write.{Write}

module _ (groups : GroupChanges) where
  -- a write at the end is the first to be undone
  pub rolled_back-push : (ws : List Write) (w : Write) (raw : Tables) → rolled_back groups (ws ++ w ∷ []) raw ≡ rolled_back groups ws (undone groups w raw)
  rolled_back-push [] w raw = refl
  rolled_back-push (v ∷ ws) w raw = ap (undone groups v) (rolled_back-push ws w raw)

  pub undoable-push : (caps : Caps) (ws : List Write) (w : Write) (raw : Tables) → IsUndoable groups caps w raw → AreUndoable groups caps ws (undone groups w raw) → AreUndoable groups caps (ws ++ w ∷ []) raw
  undoable-push caps [] w raw may all = (may, tt)
  undoable-push caps (v ∷ ws) w raw may all = (subst (λ (r : Tables). IsUndoable groups caps v r) (sym (rolled_back-push ws w raw)) all.0, undoable-push caps ws w raw may all.1)

  pub undoable-last : (caps : Caps) (ws : List Write) (w : Write) (raw : Tables) → AreUndoable groups caps (ws ++ w ∷ []) raw → IsUndoable groups caps w raw
  undoable-last caps [] w raw all = all.0
  undoable-last caps (v ∷ ws) w raw all = undoable-last caps ws w raw all.1

  pub undoable-front : (caps : Caps) (ws : List Write) (w : Write) (raw : Tables) → AreUndoable groups caps (ws ++ w ∷ []) raw → AreUndoable groups caps ws (undone groups w raw)
  undoable-front caps [] w raw all = tt
  undoable-front caps (v ∷ ws) w raw all = (subst (λ (r : Tables). IsUndoable groups caps v r) (rolled_back-push ws w raw) all.0, undoable-front caps ws w raw all.1)

  -- what one turn of the way back leaves
  pub record Turns (caps : Caps) (log front : List Write) (raw after : Tables) : Type 0 where
    pub undoable : AreUndoable groups caps front after
    pub back : rolled_back groups front after ≡ rolled_back groups log raw

  pub turn : (caps caps' : Caps) (log front : List Write) (w : Write) (raw after : Tables) → log ≡ front ++ w ∷ [] → after ≡ undone groups w raw → caps' ≡ caps → AreUndoable groups caps log raw → Turns caps' log front raw after
  turn caps caps' log front w raw after is undo same all =
      let all2 : AreUndoable groups caps (front ++ w ∷ []) raw = subst (λ (l : List Write). AreUndoable groups caps l raw) is all in
      let first : AreUndoable groups caps front after = subst (λ (r : Tables). AreUndoable groups caps front r) (sym undo) (undoable-front caps front w raw all2) in
      record {
        undoable = subst (λ (c : Caps). AreUndoable groups c front after) (sym same) first;
        back = ap (rolled_back groups front) undo ∙ sym (rolled_back-push front w raw) ∙ ap (λ (l : List Write). rolled_back groups l raw) (sym is);
      }

  -- the call that undoes the write leads from the tables back to the earlier ones
  pub record Undoes (caps : Caps) (w : Write) (after before : Tables) : Type 0 where
    pub undoable : IsUndoable groups caps w after
    pub is : undone groups w after ≡ before

-- one write that was noted
pub noted-one : {Are : GroupChanges → Type 0} (before after : Moment) (w : Write) → ((groups : GroupChanges) → Are groups → Undoes groups before.caps w after.raw before.raw) → after.log ≡ before.log ++ w ∷ [] → after.caps ≡ before.caps → after.writes ≡ before.writes + 1 → after.len ≡ before.len + 1 → before.room ≤ after.room → AreNotedWhere Are 1 before after
noted-one {Are} before after w undoes log caps writes len room =
    let undoable : (groups : GroupChanges) → Are groups → AreUndoable groups before.caps before.log before.raw → AreUndoable groups before.caps (before.log ++ w ∷ []) after.raw =
    λ groups are all. undoable-push groups before.caps before.log w after.raw (undoes groups are).undoable (subst (λ (r : Tables). AreUndoable groups before.caps before.log r) (sym (undoes groups are).is) all) in
    record {
      undoable = λ groups are all. subst (λ (c : Caps). AreUndoable groups c after.log after.raw) (sym caps) (subst (λ (l : List Write). AreUndoable groups before.caps l after.raw) (sym log) (undoable groups are all));
      back = λ groups are. ap (λ (l : List Write). rolled_back groups l after.raw) log ∙ rolled_back-push groups before.log w after.raw ∙ ap (rolled_back groups before.log) (undoes groups are).is;
      caps = caps;
      writes = writes;
      len = len;
      room = room;
    }

-- no write
pub noted-none : {Are : GroupChanges → Type 0} (before after : Moment) → after.raw ≡ before.raw → after.log ≡ before.log → after.caps ≡ before.caps → after.writes ≡ before.writes → after.len ≡ before.len → before.room ≤ after.room → AreNotedWhere Are 0 before after
noted-none before after raw log caps writes len room = record {
  undoable = λ groups are all. subst (λ (c : Caps). AreUndoable groups c after.log after.raw) (sym caps) (subst (λ (l : List Write). AreUndoable groups before.caps l after.raw) (sym log) (subst (λ (r : Tables). AreUndoable groups before.caps before.log r) (sym raw) all));
  back = λ groups are. ap (λ (l : List Write). rolled_back groups l after.raw) log ∙ ap (rolled_back groups before.log) raw;
  caps = caps;
  writes = omega arith;
  len = omega arith;
  room = room;
}

pub noted-same : {Are : GroupChanges → Type 0} (moment : Moment) → AreNotedWhere Are 0 moment moment
noted-same moment = record { undoable = λ groups are all. all; back = λ groups are. refl; caps = refl; writes = omega arith; len = omega arith; room = omega arith }

pub noted-then : {Are : GroupChanges → Type 0} {n m : ℕ} {before between after : Moment} → AreNotedWhere Are n before between → AreNotedWhere Are m between after → AreNotedWhere Are (n + m) before after
noted-then a b = record {
  undoable = λ groups are all. b.undoable groups are (a.undoable groups are all);
  back = λ groups are. b.back groups are ∙ a.back groups are;
  caps = b.caps ∙ a.caps;
  writes = omega (arith, a.writes, b.writes);
  len = omega (arith, a.len, b.len);
  room = omega (arith, a.room, b.room);
}

pub noted-as : {Are : GroupChanges → Type 0} {n : ℕ} {before after : Moment} (m : ℕ) → m ≡ n → AreNotedWhere Are n before after → AreNotedWhere Are m before after
noted-as {Are} {n} {before} {after} m same a = subst (λ (k : ℕ). AreNotedWhere Are k before after) (sym same) a

-- where fewer changes of groups are such
pub noted-where : {Wide Narrow : GroupChanges → Type 0} {n : ℕ} {before after : Moment} → ((groups : GroupChanges) → Narrow groups → Wide groups) → AreNotedWhere Wide n before after → AreNotedWhere Narrow n before after
noted-where are a = record {
  undoable = λ groups some. a.undoable groups (are groups some);
  back = λ groups some. a.back groups (are groups some);
  caps = a.caps;
  writes = a.writes;
  len = a.len;
  room = a.room;
}

pub noted-any : {Are : GroupChanges → Type 0} {n : ℕ} {before after : Moment} → AreNoted n before after → AreNotedWhere Are n before after
noted-any a = noted-where (λ groups are. tt) a

pub up_to-where : {Wide Narrow : GroupChanges → Type 0} {most : ℕ} {before after : Moment} → ((groups : GroupChanges) → Narrow groups → Wide groups) → AreNotedUpToWhere Wide most before after → AreNotedUpToWhere Narrow most before after
up_to-where are a = record { count = a.count; few = a.few; noted = noted-where are a.noted }

pub up_to-any : {Are : GroupChanges → Type 0} {most : ℕ} {before after : Moment} → AreNotedUpTo most before after → AreNotedUpToWhere Are most before after
up_to-any a = up_to-where (λ groups are. tt) a

-- a loop of writes: its start, a turn, and its end
pub but-start : {Are : GroupChanges → Type 0} (total : ℕ) (moment : Moment) → AreNotedButWhere Are total total moment moment
but-start total moment = record { count = 0; sum = omega arith; noted = noted-same moment }

pub but-turn : {Are : GroupChanges → Type 0} {n rest total : ℕ} {before between after : Moment} (left : ℕ) → rest ≡ n + left → AreNotedButWhere Are rest total before between → AreNotedWhere Are n between after → AreNotedButWhere Are left total before after
but-turn {n = n} left is a b = record { count = a.count + n; sum = omega (arith, a.sum, is); noted = noted-then a.noted b }

pub but-end : {Are : GroupChanges → Type 0} {rest total : ℕ} {before after : Moment} → rest ≡ 0 → AreNotedButWhere Are rest total before after → AreNotedWhere Are total before after
but-end {total = total} none a = noted-as total (omega (arith, a.sum, none)) a.noted

pub but-stop : {Are : GroupChanges → Type 0} {rest total : ℕ} {before between after : Moment} → AreNotedButWhere Are rest total before between → AreNotedWhere Are 0 between after → AreNotedUpToWhere Are total before after
but-stop a b = record { count = a.count + 0; few = omega (arith, a.sum); noted = noted-then a.noted b }

pub up_to-then : {Are : GroupChanges → Type 0} {n most : ℕ} {before between after : Moment} (more : ℕ) → n + most ≤ more → AreNotedWhere Are n before between → AreNotedUpToWhere Are most between after → AreNotedUpToWhere Are more before after
up_to-then {n = n} more few a b = record { count = n + b.count; few = omega (arith, b.few, few); noted = noted-then a b.noted }
