-- What each act adds to the instructions stands for what it adds to the tree.
use Rattle.std.proofs.Common.{◌≡◌, ℕ, zero, suc, ◌+◌, ◌<◌, ◌≤◌, List, [], ◌∷◌, ◌++◌, length, Bool, true, false, cond, refl, sym, ap, ◌∙◌, arith, length-append}
use Rattle.std.specs.Prelude.{slice_set}
use Rattle.std.proofs.Math.ListN.{length-set}
use Rattle.muf_model.specs.declared.code.Offer.{Offer}
use Rattle.muf_model.specs.declared.code.Word.{Word}
use Rattle.muf_model.specs.declared.code.Word.TheVariants.{NextIndex, NextPair}
use Rattle.muf_model.specs.declared.code.Closer.{Closer}
use Rattle.muf_model.specs.declared.code.Closer.TheVariants as closer
use Rattle.muf_model.specs.declared.code.Instr.TheVariants.{Plain, Unset, Close, When}
use Rattle.muf_model.specs.declared.code.Placed.{Placed}
use Rattle.muf_model.specs.declared.code.CodeWord.{CodeWord}
use Rattle.muf_model.specs.Tree.{Fork, if_word, try_word, Ring, begin_word, for_word, each_word, Block, stop, word, when, fork, ring, Definition}
use Rattle.muf_model.specs.inner.Stands.{Stands, IsAt, fork_instr, ring_instr, hop_instr, WordsStand, InRow}
use Rattle.muf_model.proofs.Standing.{joins, Extends, stands_map, stands_kept, fork_kept, words_kept, row_kept}
use Rattle.muf_compile.specs.declared.act.Opening.{Opening}
use Rattle.muf_compile.specs.declared.act.Opening.TheVariants as opening
use Rattle.muf_compile.specs.declared.act.Act.{Act}
use Rattle.muf_compile.specs.declared.act.Act.TheVariants.{Wait, Title, Item, Jump, Open, Else, Then, Catch, EndCatch, Repeat, Until, End, Offer as offer_act}
use Rattle.muf_compile.specs.declared.hole.Pending.{Pending}
use Rattle.muf_compile.specs.Growth as growth
use Rattle.muf_compile.specs.Growth.{Unfinished, first, second, turning, Growth, Grown, grow, growth_with_item, with_part}
use Rattle.muf_compile.specs.inner.Built.{Built}
use Rattle.muf_compile.specs.inner.Build as building
use Rattle.muf_compile.specs.inner.Build.{Made, build, emitted, with_code}
use Rattle.muf_compile.specs.inner.Fits.{From, OpensFit, outermost, in_first, in_second, in_turn, BuiltFits, MadeAlike, first_open, second_open, ring_open, hole}
use Rattle.muf_compile.proofs.Extending.{get_append, get_end, get_set_same, get_set_other, extends_append, extends_set, extends_two}
use Rattle.muf_compile.proofs.Ends.{word_ends}

module _ (code other : List Placed) (x : Extends code other) (begin : ℕ) where
  -- what is open stays open in other code that keeps the open places below a bound
  opens_kept : (bound : ℕ) → ((p line : ℕ) → p < bound → IsAt code p line Unset → IsAt other p line Unset) → {us : List Unfinished} {os : List Pending} {start : ℕ} → start ≤ bound → OpensFit code begin us os start → OpensFit other begin us os start
  opens_kept bound holes le outermost = outermost
  opens_kept bound holes le (in_first {k} {line} {before} {us} {os} at {start} b within u o) =
      in_first at (stands_kept code other x before start _ _ (λ p e. e) b) within (holes at line (omega arith) u) (opens_kept bound holes (omega arith) o)
  opens_kept bound holes le (in_second {k} {line} {a} {mid} {before} {us} {os} at {to} {start} b within lt f c u o) =
      in_second at (stands_kept code other x before start _ _ (λ p e. e) b) within lt (fork_kept code other x k at line _ f) (stands_kept code other x a (at + 1) _ _ (λ p e. e) c) (holes to mid (omega arith) u) (opens_kept bound holes (omega arith) o)
  opens_kept bound holes le (in_turn {k} {line} {before} {us} {os} at {start} b within u o) =
      in_turn at (stands_kept code other x before start _ _ (λ p e. e) b) within (holes at line (omega arith) u) (opens_kept bound holes (omega arith) o)

-- the offer of a word
words_offered : (code : List Placed) (n : ℕ) (o : Offer) (ws : List CodeWord) (ds : List Definition) → WordsStand code ws ds → WordsStand code (building.offered_in n o ws) (growth.offered_in n o ds)
words_offered code n o [] [] h = tt
words_offered code zero o (w ∷ ws) (d ∷ ds) h =
    (record { name = h.0.name; offer = ap (λ p. growth.widened p o) h.0.offer; variables = h.0.variables; body = h.0.body }, h.1)
words_offered code (suc n) o (w ∷ ws) (d ∷ ds) h = (h.0, words_offered code n o ws ds h.1)
words_offered code n o _ _ h = absurd h

row_offered : (code : List Placed) (n : ℕ) (o : Offer) (ws : List CodeWord) (ds : List Definition) (place end : ℕ) → InRow code place ws ds end → InRow code place (building.offered_in n o ws) (growth.offered_in n o ds) end
row_offered code n o [] [] place end h = h
row_offered code zero o (w ∷ ws) (d ∷ ds) place end h = h
row_offered code (suc n) o (w ∷ ws) (d ∷ ds) place end h = (h.0, stands_map code d.body place _ _ (λ p r. row_offered code n o ws ds (p + 1) end r) h.1)
row_offered code n o _ _ place end h = absurd h

-- A builder and a growth that fit, by their parts.
module _ (b : Built) (g : Growth) (fit : WordsStand b.code b.words g.words) (row : InRow b.code 0 b.words g.words b.start) (named : b.title ≡ g.title) where
  -- other code that keeps what stands fits the same words, with these items and this open round them
  fits_on : (other : List Placed) → Extends b.code other → (start : ℕ) (now : Block) (us : List Unfinished) (os : List Pending) → From other start now (length other) → start ≤ length other → OpensFit other b.start us os start → BuiltFits (with_code b other os) (with_part g now us)
  fits_on other x start now us os items within o = record {
    start = start;
    items = items;
    within = within;
    opens = o;
    words = words_kept b.code other x b.words g.words fit;
    row = row_kept b.code other x b.words g.words 0 b.start row;
    title = named;
  }

  -- one more item in other code, after those before it
  item_joins : (other : List Placed) → Extends b.code other → (before item : Block) (us : List Unfinished) (os : List Pending) (start at bound : ℕ) → From b.code start before at → start ≤ at → at ≤ length other → OpensFit b.code b.start us os start → start ≤ bound → ((p line : ℕ) → p < bound → IsAt b.code p line Unset → IsAt other p line Unset) → Stands other at item (λ p. p ≡ length other) → BuiltFits (with_code b other os) (growth_with_item g before us item)
  item_joins other x before item us os start at bound h le end o small holes s =
      fits_on other x start _ us os (joins other before item start at _ (stands_kept b.code other x before start _ _ (λ p e. e) h) s) (omega arith) (opens_kept b.code other x b.start bound holes small o)

  module _ (us : List Unfinished) (os : List Pending) (start : ℕ) (items : From b.code start g.now (length b.code)) (within : start ≤ length b.code) (o : OpensFit b.code b.start us os start) where
    -- one more instruction
    word_grows : (line : ℕ) (w : Word) → BuiltFits (with_code b (emitted b.code line (Plain w)) os) (growth_with_item g g.now us (word line w stop))
    word_grows line w =
        let code = b.code in
        let y : Placed = record { line = line; instr = Plain w } in
        let len : length (code ++ y ∷ []) ≡ length code + 1 = length-append code (y ∷ []) in
        item_joins (code ++ y ∷ []) (extends_append code _) g.now (word line w stop) us os start (length code) start items within (omega arith) o (omega arith) (λ p row l e. get_append code _ p _ e) (get_end code y, sym len)

    -- a choice or a TRY is opened
    first_opens : (k : Fork) (line : ℕ) → BuiltFits (with_code b (emitted b.code line Unset) (first_open k (hole (length b.code) line us) ∷ os)) (with_part g stop (first k line g.now ∷ us))
    first_opens k line =
        let code = b.code in
        let v : Placed = record { line = line; instr = Unset } in
        let len : length (code ++ v ∷ []) ≡ length code + 1 = length-append code (v ∷ []) in
        let y : Extends code (code ++ v ∷ []) = extends_append code _ in
        fits_on _ y (length code + 1) stop _ _ (sym len) (omega arith)
        (in_first (length code) (stands_kept code _ y g.now start _ _ (λ p e. e) items) within (get_end code v) (opens_kept code _ y b.start start (λ p row l e. get_append code _ p _ e) (omega arith) o))

    -- a loop that begins with no test
    begin_opens : (k : Ring) (line : ℕ) → BuiltFits (with_code b (emitted b.code line Unset) (ring_open k (hole (length b.code) line us) ∷ os)) (with_part g stop (turning k line g.now ∷ us))
    begin_opens k line =
        let code = b.code in
        let v : Placed = record { line = line; instr = Unset } in
        let len : length (code ++ v ∷ []) ≡ length code + 1 = length-append code (v ∷ []) in
        let y : Extends code (code ++ v ∷ []) = extends_append code _ in
        fits_on _ y (length code + 1) stop _ _ (sym len) (omega arith)
        (in_turn {k = k} (length code) (stands_kept code _ y g.now start _ _ (λ p e. e) items) within (get_end code v) (opens_kept code _ y b.start start (λ p row l e. get_append code _ p _ e) (omega arith) o))

    -- FOR and FOREACH, with their test
    test_opens : (k : Ring) (line : ℕ) (w : Word) → BuiltFits (with_code b (emitted (emitted b.code line Unset) line (Plain w)) (ring_open k (hole (length b.code) line us) ∷ os)) (with_part g (word line w stop) (turning k line g.now ∷ us))
    test_opens k line w =
        let code = b.code in
        let v : Placed = record { line = line; instr = Unset } in
        let t : Placed = record { line = line; instr = Plain w } in
        let len : length (code ++ v ∷ []) ≡ length code + 1 = length-append code (v ∷ []) in
        let whole : length ((code ++ v ∷ []) ++ t ∷ []) ≡ length code + 1 + 1 = length-append (code ++ v ∷ []) (t ∷ []) ∙ ap (λ n. n + 1) len in
        let y : Extends code ((code ++ v ∷ []) ++ t ∷ []) = extends_two _ _ _ (extends_append code _) (extends_append _ _) in
        fits_on _ y (length code + 1) (word line w stop) _ _ (rw (← len) (get_end (code ++ v ∷ []) t), sym whole) (omega arith)
        (in_turn {k = k} (length code) (stands_kept code _ y g.now start _ _ (λ p e. e) items) within (get_append (code ++ v ∷ []) _ _ _ (get_end code v)) (opens_kept code _ y b.start start (λ p row l e. get_append _ _ p _ (get_append code _ p _ e)) (omega arith) o))

  module _ (us : List Unfinished) (os : List Pending) (before : Block) (at line start : ℕ) (items : From b.code (at + 1) g.now (length b.code)) (within : at + 1 ≤ length b.code) (h : From b.code start before at) (le : start ≤ at) (u : IsAt b.code at line Unset) (o : OpensFit b.code b.start us os start) where
    -- THEN with no ELSE
    then_closes : BuiltFits (with_code b (slice_set b.code at (record { line = line; instr = When (length b.code) })) os) (growth_with_item g before us (when line g.now stop))
    then_closes =
        let code = b.code in
        let i : Placed = record { line = line; instr = When (length code) } in
        let other = slice_set code at i in
        let len : length other ≡ length code = length-set code at i in
        let y : Extends code other = extends_set code at line i u in
        item_joins other y before (when line g.now stop) us os start at at h le (omega arith) o le (λ p row l e. get_set_other code at p _ i (λ h. omega arith) e)
        (length code, get_set_same code at _ i u, omega arith, stands_kept code other y g.now (at + 1) _ _ (λ p e. e) items, sym len)

    -- ELSE and CATCH
    second_opens : (k : Fork) (mid : ℕ) → BuiltFits (with_code b (slice_set (emitted b.code mid Unset) at (record { line = line; instr = fork_instr k (length b.code + 1) })) (second_open k (hole (length b.code) mid us) ∷ os)) (with_part g stop (second k line g.now mid before ∷ us))
    second_opens k mid =
        let code = b.code in
        let v : Placed = record { line = mid; instr = Unset } in
        let i : Placed = record { line = line; instr = fork_instr k (length code + 1) } in
        let longer = code ++ v ∷ [] in
        let other = slice_set longer at i in
        let len : length other ≡ length code + 1 = length-set longer at i ∙ length-append code (v ∷ []) in
        let w : IsAt longer at line Unset = get_append code _ at _ u in
        let y : Extends code other = extends_two code longer other (extends_append code _) (extends_set longer at line i w) in
        fits_on _ y (length code + 1) stop _ _ (sym len) (omega arith)
        (in_second at (stands_kept code other y before start _ _ (λ p e. e) h) le (omega arith) (get_set_same longer at _ i w) (stands_kept code other y g.now (at + 1) _ _ (λ p e. e) items) (get_set_other longer at (length code) v i (λ h. omega arith) (get_end code v)) (opens_kept code other y b.start at (λ p row l e. get_set_other longer at p _ i (λ h. omega arith) (get_append code _ p _ e)) le o))

    -- REPEAT and UNTIL
    loop_closes : (k : Ring) (last : ℕ) (c : Closer) → BuiltFits (with_code b (slice_set (emitted b.code last (Close c)) at (record { line = line; instr = ring_instr k (length b.code + 1) })) os) (growth_with_item g before us (ring k line g.now c last stop))
    loop_closes k last c =
        let code = b.code in
        let i : Placed = record { line = line; instr = ring_instr k (length code + 1) } in
        let v : Placed = record { line = last; instr = Close c } in
        let longer = code ++ v ∷ [] in
        let other = slice_set longer at i in
        let len : length other ≡ length code + 1 = length-set longer at i ∙ length-append code (v ∷ []) in
        let w : IsAt longer at line Unset = get_append code _ at _ u in
        let y : Extends code other = extends_two code longer other (extends_append code _) (extends_set longer at line i w) in
        let end : IsAt other (length code) last (Close c) = get_set_other longer at (length code) v i (λ h. omega arith) (get_end code v) in
        item_joins other y before (ring k line g.now c last stop) us os start at at h le (omega arith) o le (λ p row l e. get_set_other longer at p _ i (λ h. omega arith) (get_append code _ p _ e))
        (length code + 1, get_set_same longer at _ i w, omega arith, stands_kept code other y g.now (at + 1) _ _ (λ p e. (ap (λ n. n + 1) e, rw e end)) items, sym len)

  -- THEN after ELSE, and ENDCATCH
  second_closes : (us : List Unfinished) (os : List Pending) (a before : Block) (k : Fork) (at line mid to start : ℕ) → From b.code (to + 1) g.now (length b.code) → to + 1 ≤ length b.code → From b.code start before at → start ≤ at → at < to → IsAt b.code at line (fork_instr k (to + 1)) → From b.code (at + 1) a to → IsAt b.code to mid Unset → OpensFit b.code b.start us os start → BuiltFits (with_code b (slice_set b.code to (record { line = mid; instr = hop_instr k (length b.code) })) os) (growth_with_item g before us (fork k line a mid g.now stop))
  second_closes us os a before k at line mid to start items within h le lt f c u o =
      let code = b.code in
      let i : Placed = record { line = mid; instr = hop_instr k (length code) } in
      let other = slice_set code to i in
      let len : length other ≡ length code = length-set code to i in
      let y : Extends code other = extends_set code to mid i u in
      let last : IsAt other to mid (hop_instr k (length code)) = get_set_same code to _ i u in
      item_joins other y before (fork k line a mid g.now stop) us os start at at h le (omega arith) o le (λ p row l e. get_set_other code to p _ i (λ h. omega arith) e)
      (to + 1, length code, fork_kept code other y k at line _ f, omega arith, within, stands_kept code other y a (at + 1) _ _ (λ p e. (ap (λ n. n + 1) e, rw e last)) c, stands_kept code other y g.now (to + 1) _ _ (λ p e. e) items, sym len)

  cond_alike : (c : Bool) (x y : Made) (x' y' : Grown) → MadeAlike x x' → MadeAlike y y' → MadeAlike (cond c x y) (cond c x' y')
  cond_alike true x y x' y' h k = h
  cond_alike false x y x' y' h k = k

  loops_alike : {us : List Unfinished} {os : List Pending} {start : ℕ} → OpensFit b.code b.start us os start → building.in_loop os ≡ growth.in_loop us
  loops_alike (in_first {k = if_word} at h le u o) = refl
  loops_alike (in_second {k = if_word} at h le lt f c u o) = refl
  loops_alike (in_turn {k = begin_word} at h le u o) = refl
  loops_alike _ = refl

  else_alike : (line : ℕ) {us : List Unfinished} {os : List Pending} {start : ℕ} → From b.code start g.now (length b.code) → start ≤ length b.code → OpensFit b.code b.start us os start → MadeAlike (building.else_code line b os) (growth.else_part line g us)
  else_alike line items within (in_first {k = if_word} at h le u o) = second_opens _ _ _ at _ _ items within h le u o if_word line
  else_alike line items within (in_second {k = if_word} at h le lt f c u o) = refl
  else_alike line items within (in_turn {k = begin_word} at h le u o) = refl
  else_alike line items within _ = refl

  catch_alike : (line : ℕ) {us : List Unfinished} {os : List Pending} {start : ℕ} → From b.code start g.now (length b.code) → start ≤ length b.code → OpensFit b.code b.start us os start → MadeAlike (building.catch_code line b os) (growth.catch_part line g us)
  catch_alike line items within (in_first {k = try_word} at h le u o) = second_opens _ _ _ at _ _ items within h le u o try_word line
  catch_alike line items within (in_second {k = if_word} at h le lt f c u o) = refl
  catch_alike line items within (in_turn {k = begin_word} at h le u o) = refl
  catch_alike line items within _ = refl

  then_alike : (line : ℕ) {us : List Unfinished} {os : List Pending} {start : ℕ} → From b.code start g.now (length b.code) → start ≤ length b.code → OpensFit b.code b.start us os start → MadeAlike (building.then_code line b os) (growth.then_part line g us)
  then_alike line items within (in_first {k = if_word} at h le u o) = then_closes _ _ _ at _ _ items within h le u o
  then_alike line items within (in_second {k = if_word} at h le lt f c u o) = second_closes _ _ _ _ if_word at _ _ _ _ items within h le lt f c u o
  then_alike line items within (in_turn {k = begin_word} at h le u o) = refl
  then_alike line items within _ = refl

  end_catch_alike : (line : ℕ) {us : List Unfinished} {os : List Pending} {start : ℕ} → From b.code start g.now (length b.code) → start ≤ length b.code → OpensFit b.code b.start us os start → MadeAlike (building.end_catch_code line b os) (growth.end_catch_part line g us)
  end_catch_alike line items within (in_first {k = if_word} at h le u o) = refl
  end_catch_alike line items within (in_second {k = try_word} at h le lt f c u o) = second_closes _ _ _ _ try_word at _ _ _ _ items within h le lt f c u o
  end_catch_alike line items within (in_turn {k = begin_word} at h le u o) = refl
  end_catch_alike line items within _ = refl

  repeat_alike : (line : ℕ) {us : List Unfinished} {os : List Pending} {start : ℕ} → From b.code start g.now (length b.code) → start ≤ length b.code → OpensFit b.code b.start us os start → MadeAlike (building.repeat_code line b os) (growth.repeat_part line g us)
  repeat_alike line items within (in_first {k = if_word} at h le u o) = refl
  repeat_alike line items within (in_second {k = if_word} at h le lt f c u o) = refl
  repeat_alike line items within (in_turn {k = begin_word} at h le u o) = loop_closes _ _ _ at _ _ items within h le u o begin_word line closer.Repeat
  repeat_alike line items within (in_turn {k = for_word} at h le u o) = loop_closes _ _ _ at _ _ items within h le u o for_word line closer.Repeat
  repeat_alike line items within (in_turn {k = each_word} at h le u o) = loop_closes _ _ _ at _ _ items within h le u o each_word line closer.Repeat
  repeat_alike line items within _ = refl

  until_alike : (line : ℕ) {us : List Unfinished} {os : List Pending} {start : ℕ} → From b.code start g.now (length b.code) → start ≤ length b.code → OpensFit b.code b.start us os start → MadeAlike (building.until_code line b os) (growth.until_part line g us)
  until_alike line items within (in_first {k = if_word} at h le u o) = refl
  until_alike line items within (in_second {k = if_word} at h le lt f c u o) = refl
  until_alike line items within (in_turn {k = begin_word} at h le u o) = loop_closes _ _ _ at _ _ items within h le u o begin_word line closer.Until
  until_alike line items within _ = refl

  end_alike : (line n : ℕ) {us : List Unfinished} {os : List Pending} {start : ℕ} → From b.code start g.now (length b.code) → start ≤ length b.code → OpensFit b.code b.start us os start → MadeAlike (building.end_code line n b os) (growth.end_part line n g us)
  end_alike line n items within outermost = word_ends b g fit row named line n items
  end_alike line n items within (in_first {k = if_word} at h le u o) = refl
  end_alike line n items within (in_second {k = if_word} at h le lt f c u o) = refl
  end_alike line n items within (in_turn {k = begin_word} at h le u o) = refl
  end_alike line n items within _ = refl

  opening_alike : (line : ℕ) (w : Opening) {us : List Unfinished} {os : List Pending} {start : ℕ} → From b.code start g.now (length b.code) → start ≤ length b.code → OpensFit b.code b.start us os start
      → BuiltFits (with_code b (building.beginning w (emitted b.code line Unset) line) (building.opened w (hole (length b.code) line us) ∷ os)) (with_part g (growth.loop_beginning w line) (growth.construct_opened w line g.now ∷ us))
  opening_alike line opening.If items within o = first_opens _ _ _ items within o if_word line
  opening_alike line opening.Try items within o = first_opens _ _ _ items within o try_word line
  opening_alike line opening.Begin items within o = begin_opens _ _ _ items within o begin_word line
  opening_alike line opening.For items within o = test_opens _ _ _ items within o for_word line NextIndex
  opening_alike line opening.Each items within o = test_opens _ _ _ items within o each_word line NextPair

-- the tree after an act
pub growing : (line : ℕ) (t : Act) (b : Built) (g : Growth) → BuiltFits b g → MadeAlike (build line t b) (grow line t g)
growing line Wait b g f = f
growing line (Title name) b g f = record { start = f.start; items = f.items; within = f.within; opens = f.opens; words = f.words; row = f.row; title = refl }
growing line (Item w) b g f = word_grows b g f.words f.row f.title g.around b.pending f.start f.items f.within f.opens line w
growing line (Jump w) b g f =
    rw (loops_alike b g f.words f.row f.title f.opens) (cond_alike b g f.words f.row f.title (growth.in_loop g.around) _ _ _ _ (word_grows b g f.words f.row f.title g.around b.pending f.start f.items f.within f.opens line w) refl)
growing line (Open o) b g f = rw (loops_alike b g f.words f.row f.title f.opens) (opening_alike b g f.words f.row f.title line o f.items f.within f.opens)
growing line Else b g f = else_alike b g f.words f.row f.title line f.items f.within f.opens
growing line Then b g f = then_alike b g f.words f.row f.title line f.items f.within f.opens
growing line Catch b g f = catch_alike b g f.words f.row f.title line f.items f.within f.opens
growing line EndCatch b g f = end_catch_alike b g f.words f.row f.title line f.items f.within f.opens
growing line Repeat b g f = repeat_alike b g f.words f.row f.title line f.items f.within f.opens
growing line Until b g f = until_alike b g f.words f.row f.title line f.items f.within f.opens
growing line (End n) b g f = end_alike b g f.words f.row f.title line n f.items f.within f.opens
growing line (offer_act n o) b g f = record { start = f.start; items = f.items; within = f.within; opens = f.opens; words = words_offered b.code n o b.words g.words f.words; row = row_offered b.code n o b.words g.words 0 b.start f.row; title = f.title }
