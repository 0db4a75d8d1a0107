-- What each step tells the seat that takes it.
use Rattle.std.specs.Prelude.{◌≡◌, ◌≢◌, ◌⊎◌, ℕ, ◌+◌, ◌<◌, ◌≤◌, Bool, true, false, List, [], ◌∷◌, ◌++◌, length, Some}
use mathlib.Core.Option.{some}
use Rattle.keyed.specs.Prefix.{IsPrefix}
use lib.ListN.{get_elem?}
use Rattle.atomic_table.specs.Table.{Me, Step, rest}
use Rattle.atomic_table.specs.Seated.{TableId}
use Rattle.turn_book.specs.declared.view.View.{View}
use Rattle.turn_book.specs.declared.view.Ended.{Ended}
use Rattle.turn_book.specs.declared.view.Held.{Held}
use Rattle.turn_book.specs.declared.view.Held.TheVariants.{Desk, Chip, Away}
use Rattle.turn_book.specs.Lists.{own, AreNumbered, rounds_of, strip}
use Rattle.turn_book.specs.Passes.{Pass, ListsAgree}
use Rattle.turn_book.specs.Means.{Means}

-- The table of a book has four words and two slots.
pub record IsBookTable (id : TableId) : Type 0 where
  pub words : id.words ≡ 4
  pub slots : id.slots ≡ 2

-- The slot that a seat with the chip's turn has in its hand. The value itself is with the caller.
abbrev pub chip_hand : {V W : Type 0} → Bool → List (ℕ × Held V W)
chip_hand true = (1, Away) ∷ []
chip_hand false = []

-- The slots that a seat has in its hand, by the turns that it has.
abbrev pub hand_of : {V W : Type 0} → Bool → Bool → List (ℕ × Held V W)
hand_of true chip = (0, Away) ∷ chip_hand chip
hand_of false chip = chip_hand chip

module _ {G S R : Type 0} where
  -- What a pass shows of its seat's view.
  abbrev pub pass_of : TableId → View G S R → Pass G S R
  pass_of id d = record { book = id; callers = d.callers; opening = d.opening; number = d.number; seen = d.seen; mine = d.mine; jseen = d.jseen; rounds = d.rounds; takes = d.takes; misses = d.misses; tries = d.tries; holds_desk = d.desk_turn; holds_chip = d.chip_turn }

  -- The lists of the view agree.
  abbrev pub Agree : (S → ℕ) → (S → ℕ) → View G S R → Type 0
  Agree caller sequence d = ListsAgree caller sequence d.callers d.number d.seen d.mine (length d.jseen) d.rounds

  -- What is so of a pass's seat between two calls.
  pub record IsPassSeat {V W : Type 0} (caller sequence : S → ℕ) (number submitted : ℕ) (me : Me (Held V W) (View G S R)) : Type 0 where
    pub unspent : me.0.spent ≡ false
    pub hand : me.1 ≡ hand_of me.0.desk_turn me.0.chip_turn
    pub none_ended : me.0.ended ≡ []
    pub number_is : me.0.number ≡ number
    pub submitted_is : length me.0.mine ≡ submitted
    pub lists : Agree caller sequence me.0

  -- The desk was found, and stands for these lists.
  abbrev pub took : ℕ → List S → List R → View G S R → View G S R
  took tried log journal d = record d { seen = log; jseen = journal; desk_turn = true; takes = d.takes + 1; tries = d.tries + tried }

  -- The desk was away.
  abbrev pub missed : ℕ → View G S R → View G S R
  missed tried d = record d { misses = d.misses + 1; tries = d.tries + tried }

  -- The desk was put back.
  abbrev pub gave : View G S R → View G S R
  gave d = record d { desk_turn = false }

  -- A submission was counted, and these are all now.
  abbrev pub counted : (S → ℕ) → List S → View G S R → View G S R
  counted caller log d = record d { seen = log; mine = own caller d.number log }

  -- A round was counted, and this is the journal now.
  abbrev pub settled : List R → View G S R → View G S R
  settled journal d = record d { jseen = journal; rounds = d.rounds ++ length d.jseen ∷ [] }

  -- The chip side was found, and stands for this journal.
  abbrev pub took_chip : List R → View G S R → View G S R
  took_chip journal d = record d { jseen = journal; chip_turn = true }

  -- The chip side was put back.
  abbrev pub gave_chip : View G S R → View G S R
  gave_chip d = record d { chip_turn = false }

  -- One more seat was made.
  abbrev pub split_off : View G S R → View G S R
  split_off d = record d { made = d.made + 1 }

  -- What is kept of a caller when it ends.
  abbrev pub ended_of : View G S R → Ended S R
  ended_of d = record { number = d.number; seen = d.seen; mine = d.mine; jseen = d.jseen; rounds = d.rounds }

  -- A caller ended, and the view that took it in keeps its lists.
  abbrev pub took_in : View G S R → View G S R → View G S R
  took_in d e = record d { ended = d.ended ++ ended_of e ∷ [] }

module _ {V W G S R : Type 0} (m : Means V W G S R) where
  -- What is known of a desk when it is found.
  pub record IsDesk (d : View G S R) (v : V) : Type 0 where
    pub opening : Some (m.opening v) ≡ d.opening
    pub seen : IsPrefix d.seen (m.sent v)
    pub jseen : IsPrefix d.jseen (m.done v)
    pub settled : IsPrefix (strip m.subs (m.done v)) (m.sent v)
    pub under_chip : d.chip_turn ≡ true → m.done v ≡ d.jseen

  -- What is known of a chip side when it is found.
  pub record IsChip (d : View G S R) (w : W) : Type 0 where
    pub opening : Some (m.chip_opening w) ≡ d.opening
    pub jseen : IsPrefix d.jseen (m.chip_done w)

  -- The desk was found and taken, or it was away, which needs another caller.
  abbrev pub Takes : ℕ → Step (Held V W) → Me (Held V W) (View G S R) → ℕ → Me (Held V W) (View G S R) → Type 0
  Takes tried st me found me' =
      (found ≡ 1 → (v : V) × (me' ≡ (took tried (m.sent v) (m.done v) me.0, (0, Desk v) ∷ me.1)) × IsDesk me.0 v)
      × (found ≢ 1 → (me' ≡ (missed tried me.0, me.1)) × (1 < me.0.callers))
      × Agree m.caller m.sequence me'.0

  -- The chip side was found and taken, or it was away.
  abbrev pub TakesChip : Step (Held V W) → Me (Held V W) (View G S R) → ℕ → Me (Held V W) (View G S R) → Type 0
  TakesChip st me found me' =
      (found ≡ 1 → (w : W) × (me' ≡ (took_chip (m.chip_done w) me.0, (1, Chip w) ∷ me.1)) × IsChip me.0 w)
      × (found ≢ 1 → me' ≡ me)
      × Agree m.caller m.sequence me'.0

  -- The submissions that were told are counted.
  abbrev pub Counts : List S → Step (Held V W) → Me (Held V W) (View G S R) → ℕ → Me (Held V W) (View G S R) → Type 0
  Counts log st me found me' = (me' ≡ (counted m.caller log me.0, me.1)) × Agree m.caller m.sequence me'.0

  -- The journal that was told is counted.
  abbrev pub CountsRound : List R → Step (Held V W) → Me (Held V W) (View G S R) → ℕ → Me (Held V W) (View G S R) → Type 0
  CountsRound journal st me found me' = (me' ≡ (settled journal me.0, me.1)) × Agree m.caller m.sequence me'.0

module _ {V W G S R : Type 0} where
  -- The desk is home again.
  abbrev pub Puts : Step (Held V W) → Me (Held V W) (View G S R) → ℕ → Me (Held V W) (View G S R) → Type 0
  Puts st me found me' = me' ≡ (gave me.0, rest me.1)

  -- The chip side is home again.
  abbrev pub PutsChip : Step (Held V W) → Me (Held V W) (View G S R) → ℕ → Me (Held V W) (View G S R) → Type 0
  PutsChip st me found me' = me' ≡ (gave_chip me.0, rest me.1)

module _ {V W G S R : Type 0} (m : Means V W G S R) where
  -- The desk was found and taken, after it had been away some times.
  pub record Taken (d : View G S R) (v : V) (e : View G S R) : Type 0 where
    pub view : e ≡ record d { seen = m.sent v; jseen = m.done v; desk_turn = true; takes = d.takes + 1; misses = e.misses }
    pub misses : d.misses ≤ e.misses
    pub desk : IsDesk m d v

  -- The desk was found and taken at once.
  pub record Found (tried : ℕ) (d : View G S R) (v : V) (e : View G S R) : Type 0 where
    pub view : e ≡ took tried (m.sent v) (m.done v) d
    pub desk : IsDesk m d v

  -- A caller's lists are whole in the lists that the book ends with.
  pub record IsPart (log : List S) (journal : List R) (counters : List ℕ) (e : Ended S R) : Type 0 where
    pub seen : IsPrefix e.seen log
    pub jseen : IsPrefix e.jseen journal
    pub mine : e.mine ≡ own m.caller e.number log
    pub rounds : e.rounds ≡ rounds_of e.number 0 counters

  -- What the two values are when the last seat, which took in all others, ends the book.
  pub record Ends (d : View G S R) (v : V) (w : W) : Type 0 where
    pub journal : m.done v ≡ m.chip_done w
    pub opening : Some (m.opening v) ≡ d.opening
    pub chip_opening : Some (m.chip_opening w) ≡ d.opening
    pub settled : IsPrefix (strip m.subs (m.done v)) (m.sent v)
    pub numbered : (i : ℕ) → AreNumbered m.sequence (own m.caller i (m.sent v))
    pub counters : List ℕ
    pub counted : length counters ≡ length (m.done v)
    pub no_others : (i : ℕ) → d.callers ≤ i → (own m.caller i (m.sent v) ≡ []) × (rounds_of i 0 counters ≡ [])
    pub last : IsPart (m.sent v) (m.done v) counters (ended_of d)
    pub others : (k : ℕ) (e : Ended S R) → get_elem? d.ended k ≡ some e → IsPart (m.sent v) (m.done v) counters e
    pub apart : (k l : ℕ) (e f : Ended S R) → get_elem? d.ended k ≡ some e → get_elem? d.ended l ≡ some f → e.number ≡ f.number → k ≡ l
    pub last_apart : (k : ℕ) (e : Ended S R) → get_elem? d.ended k ≡ some e → e.number ≢ d.number

module _ {G S R : Type 0} where
  -- The desk was away, which needs another caller.
  pub record Missed (tried : ℕ) (d e : View G S R) : Type 0 where
    pub view : e ≡ missed tried d
    pub shared : 1 < d.callers

  -- The desk was away some times, and nothing else changed.
  pub record Waited (d e : View G S R) : Type 0 where
    pub view : e ≡ record d { misses = e.misses }
    pub misses : d.misses ≤ e.misses

  -- Each number of a caller is the view's own, or was taken in.
  abbrev pub HasAll : View G S R → Type 0
  HasAll d = (i : ℕ) → i < d.callers → (d.number ≡ i) ⊎ ((k : ℕ) × (e : Ended S R) × (get_elem? d.ended k ≡ some e) × (e.number ≡ i))
