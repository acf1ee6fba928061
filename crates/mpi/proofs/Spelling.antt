-- What the pieces of a text come to, one after another.
use Rattle.std.proofs.Common.{◌≡◌, ℕ, true, false, cond, List, [], ◌∷◌, ◌++◌, refl, sym, subst, ap, ◌∙◌}
use Rattle.std.specs.Prelude.{Result, Ok, Err, if◌then◌else◌}
use Rattle.mpi.specs.declared.fault.MpiFault.{MpiFault}
use Rattle.mpi.specs.declared.fault.MpiFault.TheVariants.{Unclosed, UnknownFunction, BadCount, BadValue, TooManyCommands, TooLong, Denied, NoMemory}
use Rattle.mpi.specs.Brackets.{FormulaPiece, byte, call, first_piece, formula_pieces, pieces_up_to}
use Rattle.mpi.specs.Made.{is_long, IsGrown}
use Rattle.mpi.specs.Thoughts.{MindState, Thought, Comes, Thinks, carried, thought_followed, fails}
use Rattle.mpi.specs.Meaning.{spelled}
use Rattle.mpi.proofs.Pieces.{pieces_ahead}
use Rattle.mpi.proofs.Thinking.{then_err}

-- where a text grew too long, or memory was refused
pub grown_fails : {S A : Type 0} (old more new : List ℕ) (v : Result A MpiFault × MindState S) (s : MindState S) (f : MpiFault)
    → IsGrown old more new (Err f) → (is_long (old ++ more) ≡ true → v ≡ (Err TooLong, s)) → Comes v s (Err f)
grown_fails old more new v s NoMemory h k = tt
grown_fails old more new v s TooLong h k = k h.1
grown_fails old more new v s Unclosed h k = absurd (let e : Unclosed ≡ TooLong = h.0 in cc)
grown_fails old more new v s UnknownFunction h k = absurd (let e : UnknownFunction ≡ TooLong = h.0 in cc)
grown_fails old more new v s BadCount h k = absurd (let e : BadCount ≡ TooLong = h.0 in cc)
grown_fails old more new v s BadValue h k = absurd (let e : BadValue ≡ TooLong = h.0 in cc)
grown_fails old more new v s TooManyCommands h k = absurd (let e : TooManyCommands ≡ TooLong = h.0 in cc)
grown_fails old more new v s (Denied rule) h k = absurd (let e : Denied rule ≡ TooLong = h.0 in cc)

module _ {S : Type 0} (go : List ℕ → Thought S (List ℕ)) where
  -- what is done with a piece more
  abbrev behind_piece : List ℕ → List FormulaPiece → List ℕ → Thought S (List ℕ)
  behind_piece out ps value = if is_long (out ++ value) then fails TooLong else spelled go (out ++ value) ps

  ahead : (out : List ℕ) (first : ℕ) (more rest : List ℕ) (p : FormulaPiece) (s : MindState S) → (p, rest) ≡ first_piece first more
      → spelled go out (formula_pieces (first ∷ more)) s ≡ spelled go out (p ∷ formula_pieces rest) s
  ahead out first more rest p s e = ap (λ ps. spelled go out ps s) (pieces_ahead first more ∙ (λ i. (sym e i).0 ∷ formula_pieces (sym e i).1))

  fits : (out value : List ℕ) (ps : List FormulaPiece) (s : MindState S) → is_long (out ++ value) ≡ false → behind_piece out ps value s ≡ spelled go (out ++ value) ps s
  fits out value ps s short = ap (λ t. cond t (fails TooLong) (spelled go (out ++ value) ps) s) short

  breaks : (out value : List ℕ) (ps : List FormulaPiece) (s : MindState S) → is_long (out ++ value) ≡ true → behind_piece out ps value s ≡ (Err TooLong, s)
  breaks out value ps s long = ap (λ t. cond t (fails TooLong) (spelled go (out ++ value) ps) s) long

  pub spelled_end : (out : List ℕ) (s : MindState S) → spelled go out (formula_pieces []) s ≡ (Ok out, s)
  unfolding spelled pieces_up_to
  spelled_end out s = refl

  pub spelled_byte : (out : List ℕ) (first : ℕ) (more rest : List ℕ) (b : ℕ) (s : MindState S) → (byte b, rest) ≡ first_piece first more
      → is_long (out ++ b ∷ []) ≡ false → spelled go out (formula_pieces (first ∷ more)) s ≡ spelled go (out ++ b ∷ []) (formula_pieces rest) s
  unfolding spelled
  spelled_byte out first more rest b s e short = ahead out first more rest (byte b) s e ∙ fits out (b ∷ []) (formula_pieces rest) s short

  pub spelled_byte_long : (out : List ℕ) (first : ℕ) (more rest : List ℕ) (b : ℕ) (s : MindState S) → (byte b, rest) ≡ first_piece first more
      → is_long (out ++ b ∷ []) ≡ true → spelled go out (formula_pieces (first ∷ more)) s ≡ (Err TooLong, s)
  unfolding spelled
  spelled_byte_long out first more rest b s e long = ahead out first more rest (byte b) s e ∙ breaks out (b ∷ []) (formula_pieces rest) s long

  entered_first : (out body value : List ℕ) (ps : List FormulaPiece) (s t : MindState S) → go body s ≡ (Ok value, t) → spelled go out (call body ∷ ps) s ≡ behind_piece out ps value t
  unfolding spelled thought_followed
  entered_first out body value ps s t h = λ i. carried (behind_piece out ps) (h i).0 (h i).1

  pub spelled_call : (out : List ℕ) (first : ℕ) (more rest body value : List ℕ) (s t : MindState S) → (call body, rest) ≡ first_piece first more → go body s ≡ (Ok value, t)
      → is_long (out ++ value) ≡ false → spelled go out (formula_pieces (first ∷ more)) s ≡ spelled go (out ++ value) (formula_pieces rest) t
  spelled_call out first more rest body value s t e h short =
      ahead out first more rest (call body) s e ∙ entered_first out body value (formula_pieces rest) s t h ∙ fits out value (formula_pieces rest) t short

  pub spelled_call_long : (out : List ℕ) (first : ℕ) (more rest body value : List ℕ) (s t : MindState S) → (call body, rest) ≡ first_piece first more → go body s ≡ (Ok value, t)
      → is_long (out ++ value) ≡ true → spelled go out (formula_pieces (first ∷ more)) s ≡ (Err TooLong, t)
  spelled_call_long out first more rest body value s t e h long =
      ahead out first more rest (call body) s e ∙ entered_first out body value (formula_pieces rest) s t h ∙ breaks out value (formula_pieces rest) t long

  pub spelled_call_fails : (out : List ℕ) (first : ℕ) (more rest body : List ℕ) (s t : MindState S) (f : MpiFault) → (call body, rest) ≡ first_piece first more
      → Thinks (go body) s t (Err f) → Thinks (spelled go out (formula_pieces (first ∷ more))) s t (Err f)
  unfolding spelled
  spelled_call_fails out first more rest body s t f e h =
      subst (λ v. Comes v t (Err f)) (sym (ahead out first more rest (call body) s e)) (then_err (go body) (behind_piece out (formula_pieces rest)) s t f h)
