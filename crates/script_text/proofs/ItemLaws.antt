-- The items of a sync.
use Rattle.std.proofs.Common.{◌≡◌, ℕ, suc, List, [], ◌∷◌, ◌++◌, length, Bool, true, false, cond, Option, Some, None, Result, Ok, Err, inl, inr, ◌⊎◌, refl, sym, ap, subst, ◌∙◌, codes, append_assoc}
use Rattle.std.specs.Prelude.{map, ◌/◌, ◌%◌, ◌==◌, option_map, option_and_then, if◌then◌else◌}
use Rattle.std.specs.Option.{option_or}
use Rattle.std.specs.Str.{bytes_eq}
use Rattle.std.proofs.lemmas.List.{append-nil}
use Rattle.std.proofs.lemmas.Option.{cond_some}
use Rattle.std.proofs.lemmas.Slice.Eq.{bytes_eq-Decides}
use Rattle.net_types.specs.declared.ip.Ip.TheVariants.{V4, V6}
use Rattle.net_types.specs.declared.hop.Hop.{Hop}
use Rattle.net_types.specs.Cidr.{Cidr}
use Rattle.ip_text.specs.Numerals.{in_base}
use Rattle.ip_text.specs.Values.{ip_of, ipv6_of, ipv6_by, gap_of, groups_of, words_of, all_of, row_of, last_of, group_of, hex_of, quad_of, eight_of, prefix_of, cut_at, hop_to, hop_by, hop_of, number_of}
use Rattle.switch_model.specs.declared.via.Via.{Via}
use Rattle.switch_model.specs.declared.via.Via.TheVariants.{Hops, ToCpu, Discard}
use Rattle.script_words.specs.Grammar.{hop, AreWords}
use Rattle.script_words.specs.Exact.{At, Dies, Lives, Exact}
use Rattle.script_words.specs.Classes.{prefix_class}
use Rattle.script_text.specs.declared.routes.Place.{Place}
use Rattle.script_text.specs.declared.routes.Place.TheVariants.{First, Action, InHops, Behind, Next}
use Rattle.script_text.specs.Grammar.{action, item, more_items, items}
use Rattle.script_text.specs.Reading.{put, to_action, to_hop, step, finish, items_on, items_run}

abbrev Item : Type 0
Item = Cidr × Via

-- A semicolon is no hop.

abbrev quad_by : Option ℕ → Option ℕ
quad_by o = option_and_then (λ parts. if length parts == 4 then Some (in_base 256 0 parts) else None) (option_and_then (λ value. option_map (λ values. value ∷ values) (Some [])) o)

no_quad_by : (o : Option ℕ) → quad_by o ≡ None
no_quad_by None = refl
no_quad_by (Some n) = refl

no_quad : quad_of (codes ";") ≡ None
unfolding quad_of row_of all_of words_of
no_quad = no_quad_by (number_of 0 255 (codes ";"))

no_hop : hop_of (codes ";") ≡ None
unfolding hop_of hop_by cut_at ip_of ipv6_of ipv6_by gap_of groups_of words_of last_of group_of hex_of
no_hop = ap (λ (o : Option ℕ). option_map (λ a. hop_to a None) (option_or (option_map V4 o) (option_map V6 (option_and_then eight_of (option_or None (option_map (λ quad. (quad / 65536) ∷ (quad % 65536) ∷ []) o)))))) no_quad

-- A fault is at the first word that no items begin with.

on_finds : (o : Option (Place × List Item)) (ws : List (List ℕ)) (n : ℕ) → ((s : Place × List Item) → Lives (items_run s.0 s.1)) → ((s : Place × List Item) (n : ℕ) → items_run s.0 s.1 ws ≡ Err n → At (items_run s.0 s.1) ws n)
    → items_on o (λ p d. items_run p d ws) (length ws) ≡ Err n
    → ((n ≡ suc (length ws)) × Dies (λ l. items_on o (λ p d. items_run p d l) (length l))) ⊎ (Lives (λ l. items_on o (λ p d. items_run p d l) (length l)) × At (λ l. items_on o (λ p d. items_run p d l) (length l)) ws n)
on_finds None ws n lives more e = inl (cc, λ l. (suc (length l), refl))
on_finds (Some s) ws n lives more e = inr (lives s, more s n e)

next_lives : (done : List Item) (w : List ℕ) (p : Cidr) → prefix_of w ≡ Some p → items_run Next done (w ∷ codes "cpu" ∷ []) ≡ Ok (put done p ToCpu)
next_lives done w p e = ap (λ (o : Option Cidr). items_on (to_action done o) (λ p d. items_run p d (codes "cpu" ∷ [])) 1) e

-- each place can be brought to an end
lives : (place : Place) (done : List Item) → Lives (items_run place done)
lives First done = ([], (done, refl))
lives (Action p) done = (codes "cpu" ∷ [], (put done p ToCpu, refl))
lives (InHops p hs) done = ([], (put done p (Hops hs), refl))
lives Behind done = ([], (done, refl))
lives Next done = let some = prefix_class.some in (some.0 ∷ codes "cpu" ∷ [], (put done some.1 ToCpu, next_lives done some.0 some.1 some.2))

end_finds : (place : Place) (done : List Item) (n : ℕ) → finish place done ≡ Err n → n ≡ 0
end_finds First done n e = absurd cc
end_finds (Action p) done n e = cc
end_finds (InHops p hs) done n e = absurd cc
end_finds Behind done n e = absurd cc
end_finds Next done n e = cc

finds : (ws : List (List ℕ)) (place : Place) (done : List Item) (n : ℕ) → items_run place done ws ≡ Err n → At (items_run place done) ws n
finds [] place done n e = end_finds place done n e
finds (w ∷ ws) place done n e = on_finds (step place done w) ws n (λ s. lives s.0 s.1) (λ s n e. finds ws s.0 s.1 n e) e

-- What is read are items.

-- what the words from a place on are, where these items come out
abbrev Rest : Place → List Item → List Item → List (List ℕ) → Type 0
Rest First done all ws = (rs : List Item) × (all ≡ done ++ rs) × AreWords (items rs) ws
Rest Next done all ws = (r : Item) × (rs : List Item) × (all ≡ done ++ (r ∷ rs)) × AreWords (item r ++ more_items rs) ws
Rest (Action p) done all ws = (via : Via) × (rs : List Item) × (all ≡ done ++ ((p, via) ∷ rs)) × AreWords (action via ++ more_items rs) ws
Rest (InHops p hs) done all ws = (more : List Hop) × (rs : List Item) × (all ≡ done ++ ((p, Hops (hs ++ more)) ∷ rs)) × AreWords (map hop more ++ more_items rs) ws
Rest Behind done all ws = (rs : List Item) × (all ≡ done ++ rs) × AreWords (more_items rs) ws

same_word : (w k : List ℕ) → bytes_eq w k ≡ true → w ≡ k
same_word w k e = (bytes_eq-Decides w k).0 e

is_some : {A : Type 0} (x y : A) → Some x ≡ Some y → x ≡ y
is_some x y e = cc

is_ok : (x y : List Item) → (let r : Result (List Item) ℕ = Ok x in r ≡ Ok y) → x ≡ y
is_ok x y e = cc

to_action_takes : (done : List Item) (o : Option Cidr) (s : Place × List Item) → to_action done o ≡ Some s → (p : Cidr) × (o ≡ Some p) × (s ≡ (Action p, done))
to_action_takes done None s e = absurd cc
to_action_takes done (Some p) s e = (p, refl, sym (is_some (Action p, done) s e))

semicolon_takes : (w : List ℕ) (place : Place) (done : List Item) (s : Place × List Item) → cond (bytes_eq w (codes ";")) (Some (place, done)) None ≡ Some s → (w ≡ codes ";") × (s ≡ (place, done))
semicolon_takes w place done s e = let t = cond_some _ (place, done) s e in (same_word w (codes ";") t.0, sym t.1)

action_takes : (p : Cidr) (done : List Item) (w : List ℕ) (v c d : Bool) → bytes_eq w (codes "via") ≡ v → bytes_eq w (codes "cpu") ≡ c → bytes_eq w (codes "drop") ≡ d → (s : Place × List Item) (all : List Item) (ws : List (List ℕ))
    → cond v (Some (InHops p [], done)) (cond c (Some (Behind, put done p ToCpu)) (cond d (Some (Behind, put done p Discard)) None)) ≡ Some s → Rest s.0 s.1 all ws → Rest (Action p) done all (w ∷ ws)
action_takes p done w true c d v_is c_is d_is s all ws e rest =
    let r = subst (λ (s : Place × List Item). Rest s.0 s.1 all ws) (sym (is_some (InHops p [], done) s e)) rest in
    (Hops r.0, r.1, r.2, (same_word w (codes "via") v_is, r.3))
action_takes p done w false true d v_is c_is d_is s all ws e rest =
    let r = subst (λ (s : Place × List Item). Rest s.0 s.1 all ws) (sym (is_some (Behind, put done p ToCpu) s e)) rest in
    (ToCpu, r.0, r.1 ∙ append_assoc done ((p, ToCpu) ∷ []) r.0, (same_word w (codes "cpu") c_is, r.2))
action_takes p done w false false true v_is c_is d_is s all ws e rest =
    let r = subst (λ (s : Place × List Item). Rest s.0 s.1 all ws) (sym (is_some (Behind, put done p Discard) s e)) rest in
    (Discard, r.0, r.1 ∙ append_assoc done ((p, Discard) ∷ []) r.0, (same_word w (codes "drop") d_is, r.2))
action_takes p done w false false false v_is c_is d_is s all ws e rest = absurd cc

-- an item behind which no hop follows
closed : (done : List Item) (p : Cidr) (hs : List Hop) (rs : List Item) → put done p (Hops hs) ++ rs ≡ done ++ ((p, Hops (hs ++ [])) ∷ rs)
closed done p hs rs = append_assoc done ((p, Hops hs) ∷ []) rs ∙ ap (λ (l : List Hop). done ++ ((p, Hops l) ∷ rs)) (sym (append-nil hs))

hop_takes : (p : Cidr) (hs : List Hop) (done : List Item) (w : List ℕ) (o : Option Hop) → hop_of w ≡ o → (s : Place × List Item) (all : List Item) (ws : List (List ℕ))
    → to_hop done p hs w o ≡ Some s → Rest s.0 s.1 all ws → Rest (InHops p hs) done all (w ∷ ws)
hop_takes p hs done w (Some h) is s all ws e rest =
    let r = subst (λ (s : Place × List Item). Rest s.0 s.1 all ws) (sym (is_some (InHops p (hs ++ h ∷ []), done) s e)) rest in
    (h ∷ r.0, r.1, r.2 ∙ ap (λ (l : List Hop). done ++ ((p, Hops l) ∷ r.1)) (append_assoc hs (h ∷ []) r.0), (is, r.3))
hop_takes p hs done w None is s all ws e rest =
    let t = semicolon_takes w Next (put done p (Hops hs)) s e in
    let r = subst (λ (s : Place × List Item). Rest s.0 s.1 all ws) t.1 rest in
    ([], r.0 ∷ r.1, r.2 ∙ closed done p hs (r.0 ∷ r.1), (t.0, r.3))

step_takes : (place : Place) (done : List Item) (w : List ℕ) (s : Place × List Item) (all : List Item) (ws : List (List ℕ)) → step place done w ≡ Some s → Rest s.0 s.1 all ws → Rest place done all (w ∷ ws)
step_takes First done w s all ws e rest =
    let t = to_action_takes done (prefix_of w) s e in
    let r = subst (λ (s : Place × List Item). Rest s.0 s.1 all ws) t.2 rest in
    ((t.0, r.0) ∷ r.1, r.2, (t.1, r.3))
step_takes Next done w s all ws e rest =
    let t = to_action_takes done (prefix_of w) s e in
    let r = subst (λ (s : Place × List Item). Rest s.0 s.1 all ws) t.2 rest in
    ((t.0, r.0), r.1, r.2, (t.1, r.3))
step_takes (Action p) done w s all ws e rest = action_takes p done w (bytes_eq w (codes "via")) (bytes_eq w (codes "cpu")) (bytes_eq w (codes "drop")) refl refl refl s all ws e rest
step_takes (InHops p hs) done w s all ws e rest = hop_takes p hs done w (hop_of w) refl s all ws e rest
step_takes Behind done w s all ws e rest =
    let t = semicolon_takes w Next done s e in
    let r = subst (λ (s : Place × List Item). Rest s.0 s.1 all ws) t.1 rest in
    (r.0 ∷ r.1, r.2, (t.0, r.3))

end_takes : (place : Place) (done all : List Item) → finish place done ≡ Ok all → Rest place done all []
end_takes First done all e = ([], sym (is_ok done all e) ∙ sym (append-nil done), tt)
end_takes (Action p) done all e = absurd cc
end_takes (InHops p hs) done all e = ([], [], sym (is_ok (put done p (Hops hs)) all e) ∙ sym (append-nil (put done p (Hops hs))) ∙ closed done p hs [], tt)
end_takes Behind done all e = ([], sym (is_ok done all e) ∙ sym (append-nil done), tt)
end_takes Next done all e = absurd cc

on_takes : (o : Option (Place × List Item)) (ws : List (List ℕ)) (all : List Item) → items_on o (λ p d. items_run p d ws) (length ws) ≡ Ok all → (s : Place × List Item) × (o ≡ Some s) × (items_run s.0 s.1 ws ≡ Ok all)
on_takes None ws all e = absurd cc
on_takes (Some s) ws all e = (s, refl, e)

takes : (ws : List (List ℕ)) (place : Place) (done all : List Item) → items_run place done ws ≡ Ok all → Rest place done all ws
takes [] place done all e = end_takes place done all e
takes (w ∷ ws) place done all e =
    let t = on_takes (step place done w) ws all e in
    step_takes place done w t.0 all ws t.1 (takes ws t.0.0 t.0.1 all t.2)

pub exact_items : Exact (items_run First []) (λ all ws. AreWords (items all) ws)
exact_items = record {
  some = lives First [];
  partly = record {
    finds = λ ws n e. finds ws First [] n e;
    takes = λ ws all e. let t = takes ws First [] all e in subst (λ (rs : List Item). AreWords (items rs) ws) (sym t.1) t.2;
  };
}

-- And back.

first_end : (done all rs : List Item) → all ≡ done ++ rs → AreWords (items rs) [] → finish First done ≡ Ok all
first_end done all [] e is = ap (λ (l : List Item). Ok l) (sym (e ∙ append-nil done))
first_end done all (r ∷ rs) e is = absurd is

behind_end : (done all rs : List Item) → all ≡ done ++ rs → AreWords (more_items rs) [] → finish Behind done ≡ Ok all
behind_end done all [] e is = ap (λ (l : List Item). Ok l) (sym (e ∙ append-nil done))
behind_end done all (r ∷ rs) e is = absurd is

action_end : (p : Cidr) (done all : List Item) (via : Via) (rs : List Item) → AreWords (action via ++ more_items rs) [] → finish (Action p) done ≡ Ok all
action_end p done all (Hops hs) rs is = absurd is
action_end p done all ToCpu rs is = absurd is
action_end p done all Discard rs is = absurd is

hops_end : (p : Cidr) (hs : List Hop) (done all : List Item) (more : List Hop) (rs : List Item) → all ≡ done ++ ((p, Hops (hs ++ more)) ∷ rs) → AreWords (map hop more ++ more_items rs) [] → finish (InHops p hs) done ≡ Ok all
hops_end p hs done all [] [] e is = ap (λ (l : List Item). Ok l) (sym (append-nil (put done p (Hops hs))) ∙ closed done p hs [] ∙ sym e)
hops_end p hs done all [] (r ∷ rs) e is = absurd is
hops_end p hs done all (h ∷ more) rs e is = absurd is

first_again : (done : List Item) (w : List ℕ) (all : List Item) (ws : List (List ℕ)) (rs : List Item) → all ≡ done ++ rs → AreWords (items rs) (w ∷ ws) → (s : Place × List Item) × (step First done w ≡ Some s) × Rest s.0 s.1 all ws
first_again done w all ws [] e is = absurd is
first_again done w all ws ((p, via) ∷ rs) e is = ((Action p, done), ap (to_action done) is.0, (via, rs, e, is.1))

behind_again : (done : List Item) (w : List ℕ) (all : List Item) (ws : List (List ℕ)) (rs : List Item) → all ≡ done ++ rs → AreWords (more_items rs) (w ∷ ws) → (s : Place × List Item) × (step Behind done w ≡ Some s) × Rest s.0 s.1 all ws
behind_again done w all ws [] e is = absurd is
behind_again done w all ws (r ∷ rs) e is = ((Next, done), ap (step Behind done) is.0, (r, rs, e, is.1))

action_again : (p : Cidr) (done : List Item) (w : List ℕ) (all : List Item) (ws : List (List ℕ)) (via : Via) (rs : List Item) → all ≡ done ++ ((p, via) ∷ rs) → AreWords (action via ++ more_items rs) (w ∷ ws)
    → (s : Place × List Item) × (step (Action p) done w ≡ Some s) × Rest s.0 s.1 all ws
action_again p done w all ws (Hops hs) rs e is = ((InHops p [], done), ap (step (Action p) done) is.0, (hs, rs, e, is.1))
action_again p done w all ws ToCpu rs e is = ((Behind, put done p ToCpu), ap (step (Action p) done) is.0, (rs, e ∙ sym (append_assoc done ((p, ToCpu) ∷ []) rs), is.1))
action_again p done w all ws Discard rs e is = ((Behind, put done p Discard), ap (step (Action p) done) is.0, (rs, e ∙ sym (append_assoc done ((p, Discard) ∷ []) rs), is.1))

semicolon_again : (p : Cidr) (hs : List Hop) (done : List Item) → step (InHops p hs) done (codes ";") ≡ Some (Next, put done p (Hops hs))
semicolon_again p hs done = ap (to_hop done p hs (codes ";")) no_hop

hops_again : (p : Cidr) (hs : List Hop) (done : List Item) (w : List ℕ) (all : List Item) (ws : List (List ℕ)) (more : List Hop) (rs : List Item) → all ≡ done ++ ((p, Hops (hs ++ more)) ∷ rs) → AreWords (map hop more ++ more_items rs) (w ∷ ws)
    → (s : Place × List Item) × (step (InHops p hs) done w ≡ Some s) × Rest s.0 s.1 all ws
hops_again p hs done w all ws (h ∷ more) rs e is =
    ((InHops p (hs ++ h ∷ []), done), ap (to_hop done p hs w) is.0, (more, rs, e ∙ ap (λ (l : List Hop). done ++ ((p, Hops l) ∷ rs)) (sym (append_assoc hs (h ∷ []) more)), is.1))
hops_again p hs done w all ws [] [] e is = absurd is
hops_again p hs done w all ws [] (r ∷ rs) e is = ((Next, put done p (Hops hs)), ap (step (InHops p hs) done) is.0 ∙ semicolon_again p hs done, (r, rs, e ∙ sym (closed done p hs (r ∷ rs)), is.1))

end_again : (place : Place) (done all : List Item) → Rest place done all [] → finish place done ≡ Ok all
end_again First done all rest = first_end done all rest.0 rest.1 rest.2
end_again (Action p) done all rest = action_end p done all rest.0 rest.1 rest.3
end_again (InHops p hs) done all rest = hops_end p hs done all rest.0 rest.1 rest.2 rest.3
end_again Behind done all rest = behind_end done all rest.0 rest.1 rest.2
end_again Next done all rest = absurd rest.3

next_again : (done : List Item) (w : List ℕ) (all : List Item) (ws : List (List ℕ)) (r : Item) (rs : List Item) → all ≡ done ++ (r ∷ rs) → AreWords (item r ++ more_items rs) (w ∷ ws) → (s : Place × List Item) × (step Next done w ≡ Some s) × Rest s.0 s.1 all ws
next_again done w all ws (p, via) rs e is = ((Action p, done), ap (to_action done) is.0, (via, rs, e, is.1))

step_again : (place : Place) (done : List Item) (w : List ℕ) (all : List Item) (ws : List (List ℕ)) → Rest place done all (w ∷ ws) → (s : Place × List Item) × (step place done w ≡ Some s) × Rest s.0 s.1 all ws
step_again First done w all ws rest = first_again done w all ws rest.0 rest.1 rest.2
step_again Next done w all ws rest = next_again done w all ws rest.0 rest.1 rest.2 rest.3
step_again (Action p) done w all ws rest = action_again p done w all ws rest.0 rest.1 rest.2 rest.3
step_again (InHops p hs) done w all ws rest = hops_again p hs done w all ws rest.0 rest.1 rest.2 rest.3
step_again Behind done w all ws rest = behind_again done w all ws rest.0 rest.1 rest.2

again : (ws : List (List ℕ)) (place : Place) (done all : List Item) → Rest place done all ws → items_run place done ws ≡ Ok all
again [] place done all rest = end_again place done all rest
again (w ∷ ws) place done all rest =
    let t = step_again place done w all ws rest in
    ap (λ (o : Option (Place × List Item)). items_on o (λ p d. items_run p d ws) (length ws)) t.1 ∙ again ws t.0.0 t.0.1 all t.2

pub items_again : (all : List Item) (ws : List (List ℕ)) → AreWords (items all) ws → items_run First [] ws ≡ Ok all
items_again all ws is = again ws First [] all (all, refl, is)
