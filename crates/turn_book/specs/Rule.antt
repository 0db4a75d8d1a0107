-- The rule of the book, which holds between any two atomic steps.
use Rattle.std.specs.Prelude.{◌≡◌, ℕ, ◌^◌, ◌<◌, ◌≤◌, ◌==◌, Bool, true, false, List, [], ◌∷◌, length, Some, None, if◌then◌else◌}
use Rattle.std.specs.Prelude as Prelude
use mathlib.Core.Option.{Option, some, none}
use Rattle.keyed.specs.Prefix.{IsPrefix}
use lib.ListN.{get_elem?}
use Rattle.atomic_table.specs.Table.{State}
use Rattle.turn_book.specs.declared.view.View.{View}
use Rattle.turn_book.specs.declared.view.Ended.{Ended}
use Rattle.turn_book.specs.declared.view.Held.{Held}
use Rattle.turn_book.specs.declared.view.Held.TheVariants.{Desk, Chip}
use Rattle.turn_book.specs.Lists.{own, AreNumbered, rounds_of, strip}
use Rattle.turn_book.specs.Means.{Means}

-- Where a value is: home in its slot, or out with the seat of that number.
pub data Where : Type 0 where
  home : Where
  out : ℕ → Where

-- A value's word is 1 exactly while the value is home.
abbrev pub word_of : Where → ℕ
word_of home = 1
word_of (out k) = 0

-- Whether the seat j has the turn of a value.
abbrev pub turn_of : Where → ℕ → Bool
turn_of home j = false
turn_of (out k) j = j == k

-- What the table stands for: all submissions, the journal, the caller that counted each round, the seat that makes the others, how many
-- are made, and which are spent.
pub record World (S R : Type 0) : Type 0 where
  pub log : List S
  pub journal : List R
  pub counters : List ℕ
  pub maker : ℕ
  pub made : ℕ
  pub spent : ℕ → Bool

module _ {S R : Type 0} (caller : S → ℕ) (x : World S R) where
  -- What a caller that has ended knew is still so, and its lists are still whole.
  pub record EndedOk (e : Ended S R) : Type 0 where
    pub spent : x.spent e.number ≡ true
    pub seen : IsPrefix e.seen x.log
    pub jseen : IsPrefix e.jseen x.journal
    pub mine : e.mine ≡ own caller e.number x.log
    pub rounds : e.rounds ≡ rounds_of e.number 0 x.counters

  module _ {G : Type 0} (base : G) (callers : ℕ) where
    -- What is so of the view of the seat j while it isn't spent. Who has the desk's turn has seen everything, and who has the chip's turn
    -- has seen the whole journal.
    pub record Live (j : ℕ) (d : View G S R) : Type 0 where
      pub number : d.number ≡ j
      pub told : (d.callers ≡ callers) × (d.opening ≡ Some base)
      pub seen : IsPrefix d.seen x.log
      pub jseen : IsPrefix d.jseen x.journal
      pub whole : d.desk_turn ≡ true → (d.seen ≡ x.log) × (d.jseen ≡ x.journal)
      pub chip_whole : d.chip_turn ≡ true → d.jseen ≡ x.journal
      pub mine : d.mine ≡ own caller j x.log
      pub mine_seen : d.mine ≡ own caller j d.seen
      pub rounds : d.rounds ≡ rounds_of j 0 x.counters
      pub rounds_seen : (seen : List ℕ) × IsPrefix seen x.counters × (length seen ≡ length d.jseen) × (d.rounds ≡ rounds_of j 0 seen)
      pub makes : d.makes ≡ true → (j ≡ x.maker) × (d.made ≡ x.made)
      pub ended : (k : ℕ) (e : Ended S R) → get_elem? d.ended k ≡ some e → EndedOk e
      pub apart : (k l : ℕ) (e f : Ended S R) → get_elem? d.ended k ≡ some e → get_elem? d.ended l ≡ some f → e.number ≡ f.number → k ≡ l

    -- The view of the seat j has the turns that it should, where the desk is at a and the chip side at b. A spent view says nothing more.
    pub record Fits (a b : Where) (j : ℕ) (d : View G S R) : Type 0 where
      pub spent : d.spent ≡ x.spent j
      pub desk_turn : d.desk_turn ≡ turn_of a j
      pub chip_turn : d.chip_turn ≡ turn_of b j
      pub live : d.spent ≡ false → Live j d

module _ {V W G S R : Type 0} (m : Means V W G S R) (base : G) where
  -- The seat k is made and isn't spent, so it may hold a value.
  abbrev pub MayHold : World S R → ℕ → Type 0
  MayHold x k = (k < x.made) × (x.spent k ≡ false)

  -- A desk that is home stands for all submissions and for the journal.
  abbrev pub DeskIs : World S R → Where → Option (Held V W) → Type 0
  DeskIs x home h = (v : V) × (h ≡ some (Desk v)) × (m.sent v ≡ x.log) × (m.done v ≡ x.journal) × (m.opening v ≡ base)
  DeskIs x (out k) h = (h ≡ none) × MayHold x k

  -- A chip side that is home stands for the journal.
  abbrev pub ChipIs : World S R → Where → Option (Held V W) → Type 0
  ChipIs x home h = (w : W) × (h ≡ some (Chip w)) × (m.chip_done w ≡ x.journal) × (m.chip_opening w ≡ base)
  ChipIs x (out k) h = (h ≡ none) × MayHold x k

  -- What is so of the lists, whatever the views are.
  pub record Lists (callers : ℕ) (x : World S R) : Type 0 where
    pub room : length x.log < 2 ^ 64
    pub settled : IsPrefix (strip m.subs x.journal) x.log
    pub counters : length x.counters ≡ length x.journal
    pub numbered : (i : ℕ) → AreNumbered m.sequence (own m.caller i x.log)
    pub unmade : (i : ℕ) → x.made ≤ i → (own m.caller i x.log ≡ []) × (rounds_of i 0 x.counters ≡ []) × (x.spent i ≡ false)
    pub few : x.made ≤ callers

  -- The rule: words, slots and views all speak of one world.
  pub record Kept (callers : ℕ) (s : State (Held V W) (View G S R)) : Type 0 where
    pub world : World S R
    pub desk_at : Where
    pub chip_at : Where
    pub desk : Option (Held V W)
    pub chip : Option (Held V W)
    pub words : s.words ≡ length world.log ∷ length (strip m.subs world.journal) ∷ word_of desk_at ∷ word_of chip_at ∷ []
    pub homes : s.homes ≡ desk ∷ chip ∷ []
    pub views : length s.views ≡ world.made
    pub desk_is : DeskIs world desk_at desk
    pub chip_is : ChipIs world chip_at chip
    pub lists : Lists callers world
    pub each : (j : ℕ) (d : View G S R) → get_elem? s.views j ≡ some d → Fits m.caller world base callers desk_at chip_at j d

-- The view of a new seat, with nothing seen and no turn.
abbrev pub newcomer : {G S R : Type 0} → Prelude.Option G → ℕ → ℕ → Bool → ℕ → View G S R
newcomer opening callers i makes made = record { number = i; callers = callers; opening = opening; seen = []; mine = []; jseen = []; rounds = []; desk_turn = false; chip_turn = false; takes = 0; misses = 0; tries = 0; makes = makes; made = made; spent = false; ended = [] }

-- The view of a seat that another one took in.
abbrev pub nobody : {G S R : Type 0} → View G S R
nobody = record (newcomer None 0 0 false 0) { spent = true }

-- The marks of f, with one more at k.
abbrev pub marked : (ℕ → Bool) → ℕ → ℕ → Bool
marked f k j = if j == k then true else f j
