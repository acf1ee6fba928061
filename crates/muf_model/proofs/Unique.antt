-- What stands at a place is what is read there.
use Rattle.std.proofs.Common.{◌≡◌, ℕ, zero, suc, ◌+◌, ◌-◌, ◌<◌, ◌≤◌, List, [], ◌∷◌, map, length, refl, ap, ◌∙◌, arith, true, false, ne_eqb, eq-eqb}
use Rattle.std.specs.Prelude.{◌==◌}
use Rattle.std.proofs.lemmas.Option.{slice_get_within}
use Rattle.muf_model.specs.declared.code.Closer.{Closer}
use Rattle.muf_model.specs.declared.code.Closer.TheVariants.{Semicolon}
use Rattle.muf_model.specs.declared.code.Instr.{Instr}
use Rattle.muf_model.specs.declared.code.Instr.TheVariants.{Close}
use Rattle.muf_model.specs.declared.code.Placed.{Placed}
use Rattle.muf_model.specs.declared.code.CodeWord.{CodeWord}
use Rattle.muf_model.specs.declared.code.Code.{Code}
use Rattle.muf_model.specs.Tree.{Fork, if_word, try_word, Ring, begin_word, for_word, each_word, Block, stop, word, when, fork, ring, BlockEnd, closes, hops, Definition, Tree}
use Rattle.muf_model.specs.inner.Stands.{Stands, EndStands, Remains, IsAt, fork_instr, hop_instr, ring_instr, WordStands, WordsStand, TreeStands}
use Rattle.muf_model.specs.inner.Decode.{block, item, rest, rest_at, before, ending, placed_at, Rest, remains_at, definition_at, tree_of}

module _ (code : List Placed) where
  -- a block stops somewhere
  pub stops : (b : Block) (place : ℕ) (follows : ℕ → Type 0) → Stands code place b follows → (p : ℕ) × follows p
  stops stop place f h = (place, h)
  stops (word line w next) place f h = stops next (place + 1) f h.1
  stops (when line a next) place f h = stops next h.0 f h.4
  stops (fork k line a mid b next) place f h = stops next h.1 f h.7
  stops (ring k line body c last next) place f h = stops next h.0 f h.4

  -- and not before it began
  pub ahead : (b : Block) (place limit : ℕ) (follows : ℕ → Type 0) → ((p : ℕ) → follows p → p ≤ limit) → Stands code place b follows → place ≤ limit
  ahead stop place limit f t h = t place h
  ahead (word line w next) place limit f t h = let n = ahead next (place + 1) limit f t h.1 in omega arith
  ahead (when line a next) place limit f t h = let n = ahead next h.0 limit f t h.4 in let l = h.2 in omega arith
  ahead (fork k line a mid b next) place limit f t h = let n = ahead next h.1 limit f t h.7 in let l = h.3 in let m = h.4 in omega arith
  ahead (ring k line body c last next) place limit f t h = let n = ahead next h.0 limit f t h.4 in let l = h.2 in omega arith

  hop_at : (k : Fork) (mid to end p : ℕ) → p + 1 ≡ to → IsAt code p mid (hop_instr k end) → placed_at code (to - 1) ≡ record { line = mid; instr = hop_instr k end }
  hop_at k mid to end p e h = let q : to - 1 ≡ p = omega arith in rw (q, h) refl

  fork_item : (k : Fork) (go : ℕ → ℕ → Block) (place limit line mid to end : ℕ) → placed_at code (to - 1) ≡ record { line = mid; instr = hop_instr k end } → item code go place limit line (fork_instr k to) ≡ fork k line (go (place + 1) (to - 1)) mid (go to end) (go end limit)
  fork_item if_word go place limit line mid to end e = rw e refl
  fork_item try_word go place limit line mid to end e = rw e refl

  ring_item : (k : Ring) (go : ℕ → ℕ → Block) (place limit line last to : ℕ) (c : Closer) → placed_at code (to - 1) ≡ record { line = last; instr = Close c } → item code go place limit line (ring_instr k to) ≡ ring k line (go (place + 1) (to - 1)) c last (go to limit)
  ring_item begin_word go place limit line last to c e = rw e refl
  ring_item for_word go place limit line last to c e = rw e refl
  ring_item each_word go place limit line last to c e = rw e refl

  closing : (body : Block) (c : Closer) (last place to : ℕ) → Stands code (place + 1) body (λ p. (p + 1 ≡ to) × IsAt code p last (Close c)) → placed_at code (to - 1) ≡ record { line = last; instr = Close c }
  closing body c last place to h =
      let s = stops body (place + 1) _ h in
      let e = s.1.0 in
      let z : to - 1 ≡ s.0 = omega arith in
      rw (z, s.1.1) refl

  apart : (a b : ℕ) → a < b → (a == b) ≡ false
  apart a b l = ne_eqb a b (λ e. omega arith)

  pub same_block : (b : Block) (f place limit : ℕ) (follows : ℕ → Type 0) → ((p : ℕ) → follows p → p ≡ limit) → limit ≤ place + f → Stands code place b follows → block f code place limit ≡ b
  same_block stop zero place limit follows t le h = refl
  same_block stop (suc f) place limit follows t le h = let e : (place == limit) ≡ true = eq-eqb place limit (t place h) in rw e refl
  same_block (word line w next) zero place limit follows t le h =
      let l : place + 1 ≤ limit = ahead next (place + 1) limit follows (λ p g. (let e = t p g in omega arith)) h.1 in absurd (omega arith)
  same_block (word line w next) (suc f) place limit follows t le h =
      let l : place + 1 ≤ limit = ahead next (place + 1) limit follows (λ p g. (let e = t p g in omega arith)) h.1 in
      rw (apart place limit (omega arith), h.0) (ap (word line w) (same_block next f (place + 1) limit follows t (omega arith) h.1))
  same_block (when line a next) zero place limit follows t le h =
      let l : h.0 ≤ limit = ahead next h.0 limit follows (λ p g. (let e = t p g in omega arith)) h.4 in let m = h.2 in absurd (omega arith)
  same_block (when line a next) (suc f) place limit follows t le h =
      let l : h.0 ≤ limit = ahead next h.0 limit follows (λ p g. (let e = t p g in omega arith)) h.4 in
      let m = h.2 in
      rw (apart place limit (omega arith), h.1) (ap (λ x. when line x (block f code h.0 limit)) (same_block a f (place + 1) h.0 _ (λ p g. g) (omega arith) h.3) ∙ ap (when line a) (same_block next f h.0 limit follows t (omega arith) h.4))
  same_block (fork k line a mid b next) zero place limit follows t le h =
      let l : h.1 ≤ limit = ahead next h.1 limit follows (λ p g. (let e = t p g in omega arith)) h.7 in let m = h.3 in let n = h.4 in absurd (omega arith)
  same_block (fork k line a mid b next) (suc f) place limit follows t le h =
      let l : h.1 ≤ limit = ahead next h.1 limit follows (λ p g. (let e = t p g in omega arith)) h.7 in
      let m = h.3 in
      let n = h.4 in
      let s = stops a (place + 1) _ h.5 in
      rw (apart place limit (omega arith), h.2) (fork_item k (block f code) place limit line mid h.0 h.1 (hop_at k mid h.0 h.1 s.0 s.1.0 s.1.1) ∙ ap (λ x. fork k line x mid (block f code h.0 h.1) (block f code h.1 limit)) (same_block a f (place + 1) (h.0 - 1) _ (λ p g. (let e = g.0 in omega arith)) (omega arith) h.5) ∙ ap (λ x. fork k line a mid x (block f code h.1 limit)) (same_block b f h.0 h.1 _ (λ p g. g) (omega arith) h.6) ∙ ap (fork k line a mid b) (same_block next f h.1 limit follows t (omega arith) h.7))
  same_block (ring k line body c last next) zero place limit follows t le h =
      let l : h.0 ≤ limit = ahead next h.0 limit follows (λ p g. (let e = t p g in omega arith)) h.4 in let m = h.2 in absurd (omega arith)
  same_block (ring k line body c last next) (suc f) place limit follows t le h =
      let l : h.0 ≤ limit = ahead next h.0 limit follows (λ p g. (let e = t p g in omega arith)) h.4 in
      let m = h.2 in
      rw (apart place limit (omega arith), h.1) (ring_item k (block f code) place limit line last h.0 c (closing body c last place h.0 h.3) ∙ ap (λ x. ring k line x c last (block f code h.0 limit)) (same_block body f (place + 1) (h.0 - 1) _ (λ p g. (let e = g.0 in omega arith)) (omega arith) h.3) ∙ ap (ring k line body c last) (same_block next f h.0 limit follows t (omega arith) h.4))

  pub inside : (place line : ℕ) (i : Instr) → IsAt code place line i → place < length code
  inside place line i h = slice_get_within code place (record { line = line; instr = i }) h

  end_inside : (e : BlockEnd) (place : ℕ) → EndStands code place e → place ≤ length code
  end_inside (closes c line) place h = let l = inside place line _ h in omega arith
  end_inside (hops k line next e) place h = let l = inside place line _ h.1 in omega arith

  fork_rest : (k : Fork) (go : ℕ → ℕ → Block) (on : ℕ → Rest) (place line mid to end : ℕ) → placed_at code (to - 1) ≡ record { line = mid; instr = hop_instr k end } → rest_at code go on place line (fork_instr k to) ≡ before (on end) (fork k line (go (place + 1) (to - 1)) mid (go to end))
  fork_rest if_word go on place line mid to end e = rw e refl
  fork_rest try_word go on place line mid to end e = rw e refl

  ring_rest : (k : Ring) (go : ℕ → ℕ → Block) (on : ℕ → Rest) (place line last to : ℕ) (c : Closer) → placed_at code (to - 1) ≡ record { line = last; instr = Close c } → rest_at code go on place line (ring_instr k to) ≡ before (on to) (ring k line (go (place + 1) (to - 1)) c last)
  ring_rest begin_word go on place line last to c e = rw e refl
  ring_rest for_word go on place line last to c e = rw e refl
  ring_rest each_word go on place line last to c e = rw e refl

  hop_rest : (k : Fork) (go : ℕ → ℕ → Block) (on : ℕ → Rest) (place line to : ℕ) → rest_at code go on place line (hop_instr k to) ≡ ending (hops k line (on to).now (on to).end)
  hop_rest if_word go on place line to = refl
  hop_rest try_word go on place line to = refl

  pub same_rest : (f : ℕ) (b : Block) (e : BlockEnd) (place : ℕ) → length code ≤ place + f → Stands code place b (λ q. EndStands code q e) → rest f code place ≡ record { now = b; end = e }
  same_rest zero stop (closes c line) place le h = let l = inside place line _ h in absurd (omega arith)
  same_rest zero stop (hops k line next e) place le h = let l = inside place line _ h.1 in absurd (omega arith)
  same_rest zero (word line w next) e place le h = let l = inside place line _ h.0 in absurd (omega arith)
  same_rest zero (when line a next) e place le h = let l = inside place line _ h.1 in absurd (omega arith)
  same_rest zero (fork k line a mid b next) e place le h = let l = inside place line _ h.2 in absurd (omega arith)
  same_rest zero (ring k line body c last next) e place le h = let l = inside place line _ h.1 in absurd (omega arith)
  same_rest (suc f) stop (closes c line) place le h = rw h refl
  same_rest (suc f) stop (hops k line next e) place le h =
      let l = h.2 in
      rw h.1 (hop_rest k (block f code) (rest f code) place line h.0 ∙ ap (λ r. ending (hops k line r.now r.end)) (same_rest f next e h.0 (omega arith) h.3))
  same_rest (suc f) (word line w next) e place le h =
      rw h.0 (ap (λ r. before r (word line w)) (same_rest f next e (place + 1) (omega arith) h.1))
  same_rest (suc f) (when line a next) e place le h =
      let l = h.2 in
      let m = ahead next h.0 (length code) _ (λ p g. end_inside e p g) h.4 in
      rw h.1 (ap (λ x. before (rest f code h.0) (when line x)) (same_block a f (place + 1) h.0 _ (λ p g. g) (omega arith) h.3) ∙ ap (λ r. before r (when line a)) (same_rest f next e h.0 (omega arith) h.4))
  same_rest (suc f) (fork k line a mid b next) e place le h =
      let l = h.3 in
      let n = h.4 in
      let m = ahead next h.1 (length code) _ (λ p g. end_inside e p g) h.7 in
      let s = stops a (place + 1) _ h.5 in
      rw h.2 (fork_rest k (block f code) (rest f code) place line mid h.0 h.1 (hop_at k mid h.0 h.1 s.0 s.1.0 s.1.1) ∙ ap (λ x. before (rest f code h.1) (fork k line x mid (block f code h.0 h.1))) (same_block a f (place + 1) (h.0 - 1) _ (λ p g. (let e = g.0 in omega arith)) (omega arith) h.5) ∙ ap (λ x. before (rest f code h.1) (fork k line a mid x)) (same_block b f h.0 h.1 _ (λ p g. g) (omega arith) h.6) ∙ ap (λ r. before r (fork k line a mid b)) (same_rest f next e h.1 (omega arith) h.7))
  same_rest (suc f) (ring k line body c last next) e place le h =
      let l = h.2 in
      let m = ahead next h.0 (length code) _ (λ p g. end_inside e p g) h.4 in
      rw h.1 (ring_rest k (block f code) (rest f code) place line last h.0 c (closing body c last place h.0 h.3) ∙ ap (λ x. before (rest f code h.0) (ring k line x c last)) (same_block body f (place + 1) (h.0 - 1) _ (λ p g. (let e = g.0 in omega arith)) (omega arith) h.3) ∙ ap (λ r. before r (ring k line body c last)) (same_rest f next e h.0 (omega arith) h.4))

  -- what remains at a place is what is read there
  pub remains_read : (place : ℕ) (now : Block) (end : BlockEnd) → Remains code place now end → remains_at code place ≡ record { now = now; end = end }
  remains_read place now end h = same_rest (length code) now end place (omega arith) h

  pub definition_read : (w : CodeWord) (d : Definition) → WordStands code w d → definition_at code w ≡ d
  definition_read w d h = rw (h.name, h.offer, h.variables, remains_read w.start d.body (closes Semicolon d.last) h.body) refl

  pub words_read : (ws : List CodeWord) (ds : List Definition) → WordsStand code ws ds → map (definition_at code) ws ≡ ds
  words_read [] [] h = refl
  words_read (w ∷ ws) (d ∷ ds) h = rw (definition_read w d h.0, words_read ws ds h.1) refl
  words_read [] (d ∷ ds) h = absurd h
  words_read (w ∷ ws) [] h = absurd h

-- the tree for which code stands is the one that is read off it
pub tree_read : (code : Code) (tree : Tree) → TreeStands code tree → tree_of code ≡ tree
tree_read code tree h = rw (words_read code.placed code.words tree.words h.words, h.variables) refl
