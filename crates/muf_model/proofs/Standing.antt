-- Laws of standing code.
use Rattle.std.proofs.Common.{◌≡◌, ℕ, ◌+◌, List, [], ◌∷◌}
use Rattle.muf_model.specs.declared.code.Closer.TheVariants.{Semicolon}
use Rattle.muf_model.specs.declared.code.Instr.{Instr}
use Rattle.muf_model.specs.declared.code.Instr.TheVariants.{Unset}
use Rattle.muf_model.specs.declared.code.Placed.{Placed}
use Rattle.muf_model.specs.declared.code.CodeWord.{CodeWord}
use Rattle.muf_model.specs.Tree.{Fork, if_word, try_word, Ring, begin_word, for_word, each_word, Block, stop, word, when, fork, ring, BlockEnd, closes, hops, then_block, Definition}
use Rattle.muf_model.specs.inner.Stands.{Stands, EndStands, Remains, IsAt, fork_instr, ring_instr, hop_instr, WordsStand, InRow}

module _ (code : List Placed) where
  -- what follows may be weakened
  pub stands_map : (a : Block) (place : ℕ) (follows then_follows : ℕ → Type 0) → ((p : ℕ) → follows p → then_follows p) → Stands code place a follows → Stands code place a then_follows
  stands_map stop place f g t h = t place h
  stands_map (word line w r) place f g t h = (h.0, stands_map r (place + 1) f g t h.1)
  stands_map (when line x r) place f g t h = (h.0, h.1, h.2, h.3, stands_map r h.0 f g t h.4)
  stands_map (fork k line x mid y r) place f g t h = (h.0, h.1, h.2, h.3, h.4, h.5, h.6, stands_map r h.1 f g t h.7)
  stands_map (ring k line x c last r) place f g t h = (h.0, h.1, h.2, h.3, stands_map r h.0 f g t h.4)

  -- one block, and where it stops the other
  pub stands_then : (a b : Block) (place : ℕ) (follows : ℕ → Type 0) → Stands code place a (λ p. Stands code p b follows) → Stands code place (then_block a b) follows
  stands_then stop b place f h = h
  stands_then (word line w r) b place f h = (h.0, stands_then r b (place + 1) f h.1)
  stands_then (when line x r) b place f h = (h.0, h.1, h.2, h.3, stands_then r b h.0 f h.4)
  stands_then (fork k line x mid y r) b place f h = (h.0, h.1, h.2, h.3, h.4, h.5, h.6, stands_then r b h.1 f h.7)
  stands_then (ring k line x c last r) b place f h = (h.0, h.1, h.2, h.3, stands_then r b h.0 f h.4)

  -- a part up to a place, and what stands there
  pub joins : (a b : Block) (place to : ℕ) (follows : ℕ → Type 0) → Stands code place a (λ p. p ≡ to) → Stands code to b follows → Stands code place (then_block a b) follows
  joins a b place to f h k = stands_then a b place f (stands_map a place _ _ (λ p e. rw e k) h)

-- other code that has each instruction of this one, but for those whose target is not known yet
pub record Extends (code other : List Placed) : Type 0 where
  pub kept : (place line : ℕ) (i : Instr) → (i ≡ Unset → ⊥) → IsAt code place line i → IsAt other place line i

module _ (code other : List Placed) (x : Extends code other) where
  pub hop_kept : (k : Fork) (place line to : ℕ) → IsAt code place line (hop_instr k to) → IsAt other place line (hop_instr k to)
  hop_kept if_word place line to e = x.kept place line _ (λ e. cc) e
  hop_kept try_word place line to e = x.kept place line _ (λ e. cc) e

  pub fork_kept : (k : Fork) (place line to : ℕ) → IsAt code place line (fork_instr k to) → IsAt other place line (fork_instr k to)
  fork_kept if_word place line to e = x.kept place line _ (λ e. cc) e
  fork_kept try_word place line to e = x.kept place line _ (λ e. cc) e

  pub ring_kept : (k : Ring) (place line to : ℕ) → IsAt code place line (ring_instr k to) → IsAt other place line (ring_instr k to)
  ring_kept begin_word place line to e = x.kept place line _ (λ e. cc) e
  ring_kept for_word place line to e = x.kept place line _ (λ e. cc) e
  ring_kept each_word place line to e = x.kept place line _ (λ e. cc) e

  -- what stands goes on standing
  pub stands_kept : (a : Block) (place : ℕ) (f g : ℕ → Type 0) → ((p : ℕ) → f p → g p) → Stands code place a f → Stands other place a g
  stands_kept stop place f g t h = t place h
  stands_kept (word line w r) place f g t h = (x.kept place line _ (λ e. cc) h.0, stands_kept r (place + 1) f g t h.1)
  stands_kept (when line a r) place f g t h =
      (h.0, x.kept place line _ (λ e. cc) h.1, h.2, stands_kept a (place + 1) _ _ (λ p e. e) h.3, stands_kept r h.0 f g t h.4)
  stands_kept (fork k line a mid b r) place f g t h =
      (h.0, h.1, fork_kept k place line h.0 h.2, h.3, h.4, stands_kept a (place + 1) _ _ (λ p e. (e.0, hop_kept k p mid h.1 e.1)) h.5, stands_kept b h.0 _ _ (λ p e. e) h.6, stands_kept r h.1 f g t h.7)
  stands_kept (ring k line a c last r) place f g t h =
      (h.0, ring_kept k place line h.0 h.1, h.2, stands_kept a (place + 1) _ _ (λ p e. (e.0, x.kept p last _ (λ e. cc) e.1)) h.3, stands_kept r h.0 f g t h.4)

  pub end_kept : (e : BlockEnd) (place : ℕ) → EndStands code place e → EndStands other place e
  end_kept (closes c line) place h = x.kept place line _ (λ e. cc) h
  end_kept (hops k line next e) place h =
      (h.0, hop_kept k place line h.0 h.1, h.2, stands_kept next h.0 _ _ (λ p g. end_kept e p g) h.3)

  pub remains_kept : (now : Block) (e : BlockEnd) (place : ℕ) → Remains code place now e → Remains other place now e
  remains_kept now e place h = stands_kept now place _ _ (λ p g. end_kept e p g) h

  pub words_kept : (ws : List CodeWord) (ds : List Definition) → WordsStand code ws ds → WordsStand other ws ds
  words_kept [] [] h = tt
  words_kept (w ∷ ws) (d ∷ ds) h =
      (record { name = h.0.name; offer = h.0.offer; variables = h.0.variables; body = remains_kept d.body (closes Semicolon d.last) w.start h.0.body }, words_kept ws ds h.1)
  words_kept [] (d ∷ ds) h = absurd h
  words_kept (w ∷ ws) [] h = absurd h

  pub row_kept : (ws : List CodeWord) (ds : List Definition) (place end : ℕ) → InRow code place ws ds end → InRow other place ws ds end
  row_kept [] [] place end h = h
  row_kept (w ∷ ws) (d ∷ ds) place end h = (h.0, stands_kept d.body place _ _ (λ p r. row_kept ws ds (p + 1) end r) h.1)
  row_kept [] (d ∷ ds) place end h = absurd h
  row_kept (w ∷ ws) [] place end h = absurd h
