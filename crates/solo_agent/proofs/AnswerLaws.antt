-- Answers about what is published, from what a core keeps.
use Rattle.std.proofs.Common.{◌≡◌, ◌++◌, ℕ, List, [], ◌∷◌, Result, Ok, Err, codes, length, refl, sym, ap, ◌∙◌, arith}
use Rattle.std.specs.Prelude.{IfOk}
use Rattle.std.proofs.lemmas.List.{length-map}
use Rattle.std.specs.declared.cmp.Ordering.{Ordering}
use Rattle.answer_forms.specs.AnswerText.{answer_text, counts_text, query_text, standing_text, tables_text}
use Rattle.chip_core.specs.Chip.{IsChip, target_of, view_of}
use Rattle.chip_core.specs.GatheredLaws.{at-gathered_none}
use Rattle.chip_core.specs.MemberSlots.{distinct-keys}
use Rattle.chip_core.specs.Slots.{host_entries}
use Rattle.chip_core.specs.ViewLaws.{group_entry}
use Rattle.core_laws.specs.Published.{CoreView, IsCore, IsPublished, PublishedView, journal_of}
use Rattle.keyed.specs.Keyed.{IsKeyOrder}
use Rattle.keyed.specs.KeyedLaws.{length-put_new}
use Rattle.keyed.specs.KeyOrders.{nat_order}
use Rattle.keyed.specs.Named.{AreDistinct, gathered}
use Rattle.keyed.specs.ValueLaws.{length-with_values}
use Rattle.net_types.specs.declared.table.Caps.{Caps}
use Rattle.net_types.specs.declared.table.HostKey.{HostKey}
use Rattle.net_types.specs.declared.table.HostRow.{HostRow}
use Rattle.net_types.specs.declared.table.Tables.{Tables}
use Rattle.net_types.specs.KeyOrder.{group_cmp, group_order, host_cmp, host_order}
use Rattle.net_types.specs.Rows.{Rows}
use Rattle.report_text.specs.AnswerFound.{found_in, found_text}
use Rattle.report_text.specs.declared.answers.Found.{Found}
use Rattle.std.specs.Ordering.{nat_cmp}
use Rattle.switch_model.specs.declared.query.Query.{Query}
use Rattle.switch_model.specs.Journal.{Journal, fold, len, version_of}
use Rattle.switch_model.specs.PlainState.{PlainState}
use Rattle.switch_model.specs.Rows.{rows}
use Rattle.switch_state.specs.Plain.{plain}

-- what was found is printed as the answer
pub answered : (p : PublishedView) (query : Query) (found : Found) (version front : ℕ) (text : List ℕ) → IsPublished p → ((m : PlainState) (q : Query) → found_text (found_in m q) ≡ query_text m q) →
    found ≡ found_in (plain p.state) query → version ≡ p.state.version → front ≡ len (journal_of p) → text ≡ standing_text version front ++ found_text found →
    text ≡ answer_text query (fold (journal_of p)) (version_of (journal_of p)) (len (journal_of p))
answered p query found version front text is said found_is version_is front_is text_is =
    text_is
    ∙ ap (λ (v : ℕ). standing_text v front ++ found_text found) (version_is ∙ is.version)
    ∙ ap (λ (n : ℕ). standing_text (version_of (journal_of p)) n ++ found_text found) front_is
    ∙ ap (λ (f : Found). standing_text (version_of (journal_of p)) (len (journal_of p)) ++ found_text f) found_is
    ∙ ap (λ (l : List ℕ). standing_text (version_of (journal_of p)) (len (journal_of p)) ++ l) (said (plain p.state) query)
    ∙ ap (λ (m : PlainState). answer_text query m (version_of (journal_of p)) (len (journal_of p))) is.plain

pub answer_is : {E : Type 0} (p : PublishedView) (query : Query) (found : Found) (version front : ℕ) (r : Result (List ℕ) E) → IsPublished p → ((m : PlainState) (q : Query) → found_text (found_in m q) ≡ query_text m q) →
    found ≡ found_in (plain p.state) query → version ≡ p.state.version → front ≡ len (journal_of p) → IfOk r (λ text. text ≡ standing_text version front ++ found_text found) →
    IfOk r (λ text. text ≡ answer_text query (fold (journal_of p)) (version_of (journal_of p)) (len (journal_of p)))
answer_is p query found version front (Ok text) is said found_is version_is front_is text_is = answered p query found version front text is said found_is version_is front_is text_is
answer_is p query found version front (Err e) is said found_is version_is front_is text_is = tt

-- a chip's tables have as many rows as what they show

module _ {V N W : Type 0} (ncmp : N → N → Ordering) (name_order : IsKeyOrder ncmp) (entry : V → N × W) where
  all_gathered : (l : List (ℕ × V)) → AreDistinct ncmp (λ v. (entry v).0) l → length (gathered ncmp entry l) ≡ length l
  all_gathered [] distinct = refl
  all_gathered (e ∷ es) distinct =
      let one = length-put_new ncmp name_order (entry e.1).0 (entry e.1).1 (gathered ncmp entry es) (at-gathered_none nat_cmp nat_order ncmp name_order entry (entry e.1).0 es distinct.0) in
      let more = all_gathered es distinct.1 in
      omega (arith, one, more)

record HasRows (raw : Tables) (view : Rows) : Type 0 where
  l2 : length view.l2 ≡ length raw.l2
  host : length view.host ≡ length raw.host
  group : length view.group ≡ length raw.group
  route : length view.route ≡ length raw.route

has_rows : (caps : Caps) (raw : Tables) → IsChip caps raw → HasRows raw (view_of raw)
has_rows caps raw chip = record {
  l2 = refl;
  host = all_gathered host_cmp host_order (λ (h : HostKey × HostRow). h) (host_entries raw.host) chip.rows.keys.host_keys ∙ length-map raw.host _;
  group = all_gathered group_cmp group_order (group_entry raw.host) raw.group (distinct-keys raw chip.rows);
  route = length-with_values (target_of raw) raw.route;
}

counts_are : (raw : Tables) (view : Rows) → HasRows raw view → counts_text (length raw.l2) (length raw.host) (length raw.group) (length raw.route) ≡ counts_text (length view.l2) (length view.host) (length view.group) (length view.route)
counts_are raw view has = λ i. counts_text (sym has.l2 i) (sym has.host i) (sym has.group i) (sym has.route i)

abbrev counts_of : Rows → List ℕ
counts_of rows = counts_text (length rows.l2) (length rows.host) (length rows.group) (length rows.route)

-- the counts of a core's tables are printed as the answer
pub tables_answered : (c : CoreView) (tables : Tables) (version front : ℕ) (text : List ℕ) → IsCore c → IsPublished c.published → IsChip c.caps c.raw → tables ≡ c.raw → version ≡ c.published.state.version → front ≡ len (journal_of c.published) →
    text ≡ standing_text version front ++ (codes " " ++ counts_text (length tables.l2) (length tables.host) (length tables.group) (length tables.route)) →
    text ≡ tables_text (fold (journal_of c.published)) (version_of (journal_of c.published)) (len (journal_of c.published))
tables_answered c tables version front text core is chip tables_are version_is front_is text_is =
    let j : Journal = journal_of c.published in
    let shown : view_of c.raw ≡ rows (fold j) = core.view ∙ ap rows is.plain in
    text_is
    ∙ ap (λ (t : Tables). standing_text version front ++ (codes " " ++ counts_text (length t.l2) (length t.host) (length t.group) (length t.route))) tables_are
    ∙ ap (λ (l : List ℕ). standing_text version front ++ (codes " " ++ l)) (counts_are c.raw (view_of c.raw) (has_rows c.caps c.raw chip) ∙ ap counts_of shown)
    ∙ ap (λ (v : ℕ). standing_text v front ++ (codes " " ++ counts_of (rows (fold j)))) (version_is ∙ is.version)
    ∙ ap (λ (n : ℕ). standing_text (version_of j) n ++ (codes " " ++ counts_of (rows (fold j)))) front_is

pub tables_are : {E : Type 0} (c : CoreView) (tables : Tables) (version front : ℕ) (r : Result (List ℕ) E) → IsCore c → IsPublished c.published → IsChip c.caps c.raw → tables ≡ c.raw → version ≡ c.published.state.version → front ≡ len (journal_of c.published) →
    IfOk r (λ text. text ≡ standing_text version front ++ (codes " " ++ counts_text (length tables.l2) (length tables.host) (length tables.group) (length tables.route))) →
    IfOk r (λ text. text ≡ tables_text (fold (journal_of c.published)) (version_of (journal_of c.published)) (len (journal_of c.published)))
tables_are c tables version front (Ok text) core is chip tables_here version_is front_is text_is = tables_answered c tables version front text core is chip tables_here version_is front_is text_is
tables_are c tables version front (Err e) core is chip tables_here version_is front_is text_is = tt
