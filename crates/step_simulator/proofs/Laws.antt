-- What the buffers hold after a bag was pulled and after it was sorted; one atomic more. Assumes nothing.
use mathlib.Core.Path.{◌≡◌, refl, sym, ap, ap₂, ◌∙◌, subst}
use mathlib.Core.List.{List, [], ◌∷◌, ◌++◌, map}
use Prim.Native.Nat.{ℕ, suc, ◌+◌, ◌-◌, ◌/◌, ◌≤◌, ◌<◌, min}
use native.Mathlib.Omega.{arith}
use lib.Dec.{leb, eqb}
use lib.ListN.{length, take, drop, get_or, set, replicate, length-map, length-take}
use lib.Seq.{length-take-le, length_front, take-append-le}
use mathlib.Core.Bool.{Bool, true, ◌&&◌, not}
use Rattle.definition.specs.Lists.{sort_by}
use Rattle.definition.specs.Bytes.{Bytes}
use Rattle.definition.specs.Limits.{max_components, max_ancestors, port_count}
use Rattle.definition.specs.Model.{Bag, Phase, Rule}
use Rattle.definition.specs.Engine.{due_number}
use Rattle.clock.specs.Times.{latest}
use Rattle.run_state.specs.declared.State.{State}
use Rattle.sort.proofs.Keys.{sort-messages}
use Rattle.sort.specs.Sorted.{SortedIn}
use Rattle.sort.proofs.Fronts.{front-sorted}
use Rattle.step_simulator.specs.Simulator.{RootBag}
use Rattle.law_routes.specs.Nodes.{input_node, output_node}
use Rattle.law_base.specs.Keys.{message_of}
use Rattle.law_base.specs.Overlaid.{put_part, put_parts}
use Rattle.spec_step.specs.Put.{keys_of}
use Rattle.definition.specs.Step.{Stepped}
use Rattle.spec_step.specs.Tables.{numbers_at, count_at}
use Rattle.spec_step.specs.TableStep.{is_up, due_at_position, raised, marks, reached, keys_into, root_keys, root_room, part_by, changed_by, changed_from, parts_from, table_step}
use Rattle.spec_step.specs.Flags.{flags_size, marks_in, reached_in}
use Rattle.step_collect.specs.Collected.{arriving, leaving, keys_for, root_keys_for, bag_put, root_put}
use Rattle.step_collect.proofs.Laws.{unreached}
use Rattle.step_marks.specs.Filled.{HasMarked, HasReached, all_marks, all_reached}
use Rattle.spec_step.specs.Carried.{Carried}
use Rattle.law_step.proofs.Carried.{marked-carried, carried-put, changed-elsewhere}
use Rattle.law_step.proofs.Putting.{bag-front}
use Rattle.law_stores.proofs.Fronts.{Front}

module _ (phases : Bytes) (tables flags : List ℕ) where
  -- an atomic's bag in a buffer
  pub into-held : (given : Bytes) (c : ℕ) (b d : List ℕ) (k : ℕ) → (d, k) ≡ bag_put phases tables flags given c b
      → Front (length b) (d, k) (keys_for phases tables flags given c)
  unfolding keys_into
  into-held given c b d k e =
      let f : ℕ → List ℕ = λ q. arriving phases tables flags given max_ancestors (input_node c q) in
      subst (λ (st : List ℕ × ℕ). Front (length b) st (keys_of f port_count 0)) (sym e) (bag-front f port_count 0 b)

  -- a component that nothing may reach has no bag
  pub keys-unreached : (given : Bytes) (c : ℕ) → (not (eqb c 0) && eqb (get_or (reached_in flags) c 0) 0) ≡ true
      → length (keys_for phases tables flags given c) ≡ 0
  keys-unreached given c h =
      let b : List ℕ = 0 ∷ [] in
      let f = into-held given c b b 0 (sym (unreached phases tables flags given max_ancestors c port_count 0 (b, 0) h (omega arith))) in
      omega (arith, f.position)

  -- the root's output bag in a buffer
  pub root-held : (b d : List ℕ) (k : ℕ) → (d, k) ≡ root_put phases tables flags b → Front (length b) (d, k) (root_keys_for phases tables flags)
  unfolding root_keys
  root-held b d k e =
      let f : ℕ → List ℕ = λ q. leaving phases tables flags max_ancestors (output_node 0 q) in
      subst (λ (st : List ℕ × ℕ). Front (length b) st (keys_of f port_count 0)) (sym e) (bag-front f port_count 0 b)

-- The keys in the first quarter of a buffer, sorted there: the rest of it, but for the end, stays.
module _ (b d keys : List ℕ) (k : ℕ) (f : Front (length (take (root_room (length b)) b)) (d, k) keys) where
  abbrev quarter : ℕ
  quarter = root_room (length b)

  abbrev whole : List ℕ
  whole = d ++ drop quarter b

  lent : length (take quarter b) ≡ quarter
  lent = length-take-le quarter b (omega arith)

  same_size : length whole ≡ length b
  same_size = length_front b d quarter f.size

  pub sort-fits : k + k / 2 ≤ length whole
  sort-fits = omega (arith, f.position, lent, same_size)

  pub root-sorted : (exit : List ℕ) → SortedIn k (k / 2) whole exit → RootBag (length b) exit k keys
  root-sorted exit e = record {
    size = f.position ∙ ap (λ n. min n (length keys)) lent;
    bag =
        ap (map message_of) (front-sorted k (k / 2) whole exit sort-fits e ∙ ap (sort_by leb) front) ∙ sort-messages (take quarter keys);
  }
    where
      front : take k whole ≡ take quarter keys
      front = take-append-le k d (drop quarter b) (omega (arith, f.position, f.size)) ∙ f.held ∙ ap (λ n. take n keys) lent

-- one atomic more
module _ (ps : List Phase) (t : List ℕ) (rs : List Rule) (es fs : List ℕ) (room now : ℕ) (x : Bag) (n i : ℕ) (st : State) where
  pub changed-more : i < n
      → changed_from ps t rs es fs room now x (n - (i + 1)) (i + 1)
      (changed_by ps t rs now st i (get_or t (numbers_at + i) 0) (is_up es (get_or t (numbers_at + i) 0)) (map message_of (take room (keys_into ps t es fs x (get_or t (numbers_at + i) 0)))))
      ≡ changed_from ps t rs es fs room now x (n - i) i st
  unfolding changed_from
  changed-more h = let e : n - i ≡ suc (n - (i + 1)) = omega arith in rw e

  pub parts_more : (rules : List ℕ) → i < n
      → (let c = get_or t (numbers_at + i) 0 in
      let bag = map message_of (take room (keys_into ps t es fs x c)) in
      put_parts (put_part rules i (part_by ps t rs now st i c (is_up es c) bag)) (i + 1) (parts_from ps t rs es fs room now x (n - (i + 1)) (i + 1) (changed_by ps t rs now st i c (is_up es c) bag)))
      ≡ put_parts rules i (parts_from ps t rs es fs room now x (n - i) i st)
  unfolding parts_from put_parts
  parts_more rules h = let e : n - i ≡ suc (n - (i + 1)) = omega arith in rw e

  pub parts_none : (rules : List ℕ) → n ≤ i → rules ≡ put_parts rules i (parts_from ps t rs es fs room now x (n - i) i st)
  unfolding parts_from put_parts
  parts_none rules h = let e : n - i ≡ 0 = omega arith in rw e

  pub changed-none : n ≤ i → st ≡ changed_from ps t rs es fs room now x (n - i) i st
  unfolding changed_from
  changed-none h = let e : n - i ≡ 0 = omega arith in rw e

-- one atomic changed: its due moment is carried anew, and those of the others stay
pub carried-changed : (ps : List Phase) (t : List ℕ) (rs : List Rule) (now n : ℕ) (st st' : State) (ends : List ℕ) (i c : ℕ) (due : Bool) (x : Bag) → i < length ends
    → st' ≡ changed_by ps t rs now st i c due x → Carried ps t n st ends → Carried ps t n st' (set ends i (due_number (due_at_position ps t st' i)))
carried-changed ps t rs now n st st' ends i c due x l e h =
    carried-put ps t n st st' ends i l (λ j d. ap (λ s. due_at_position ps t s j) e ∙ changed-elsewhere ps t rs now st i c due x j d) h

-- ---- the whole step, where the flags were filled in over zeros, by due moments that are carried

abbrev zeros : List ℕ
zeros = replicate flags_size 0

no-marks : marks_in zeros ≡ replicate max_components 0
unfolding marks_in
no-marks = refl

none-reached : reached_in zeros ≡ replicate max_components 0
unfolding reached_in
none-reached = refl

module _ (ps : List Phase) (t : List ℕ) (rs : List Rule) (n room now : ℕ) (x : Bag) (st : State) (ends due flags : List ℕ)
    (h : Carried ps t n st ends) (l : now < latest)
    (e : HasMarked zeros due (all_marks t n now st.phase ends (marks_in zeros)))
    (f : HasReached due flags (all_reached t x (marks_in due) (reached_in due))) where
  marks-are : marks ps t n now st ≡ marks_in flags
  unfolding marks
  marks-are =
      sym
      (f.others ∙ e.marks ∙ ap (all_marks t n now st.phase ends) no-marks
      ∙ ap (raised t (get_or t count_at 0 - 1)) (marked-carried ps t n st ends h now n 0 (replicate max_components 0) l (omega arith)))

  flags-are : reached t (marks_in flags) x ≡ reached_in flags
  unfolding reached
  flags-are = sym (f.reached ∙ ap₂ (all_reached t x) (sym f.others) (e.others ∙ none-reached))

  build : List ℕ → List ℕ → Stepped State
  build es fs = record {
    out = record { bag = map message_of (take (root_room room) (root_keys ps t es fs)); decided = parts_from ps t rs es fs room now x n 0 st };
    state = changed_from ps t rs es fs room now x n 0 st;
  }

  pub step_is : table_step ps t rs n room now x st ≡ record {
    out = record {
      bag = map message_of (take (root_room room) (root_keys ps t (marks_in flags) (reached_in flags)));
      decided = parts_from ps t rs (marks_in flags) (reached_in flags) room now x n 0 st;
    };
    state = changed_from ps t rs (marks_in flags) (reached_in flags) room now x n 0 st;
  }
  unfolding table_step build
  step_is = ap (λ l. build l (reached t l x)) marks-are ∙ ap (build (marks_in flags)) flags-are

-- what has room of a bag
pub count-bag : (room : ℕ) (ks : List ℕ) → min room (length ks) ≡ length (map message_of (take room ks))
count-bag room ks = sym (length-map (take room ks) message_of ∙ length-take room ks)

pub out-few : (ps : List Phase) (t : List ℕ) (rs : List Rule) (n room now : ℕ) (x : Bag) (st : State) → length (table_step ps t rs n room now x st).out.bag ≤ root_room room
unfolding table_step
out-few ps t rs n room now x st =
    let es = marks ps t n now st in
    let ks = root_keys ps t es (reached t es x) in
    omega (arith, count-bag (root_room room) ks)
