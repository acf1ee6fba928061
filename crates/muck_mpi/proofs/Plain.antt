-- A text without brackets and without `\` means itself, and changes nothing.
use Rattle.std.proofs.Common.{◌≡◌, ℕ, ◌+◌, ◌≤◌, Bool, true, false, cond, List, [], ◌∷◌, ◌++◌, length, refl, sym, ap, ◌∙◌, arith, append_assoc, append-nil, length-append, None}
use Rattle.muck_laws.proofs.Tests.{all_head, all_tail}
use Rattle.muck_laws.proofs.Truths.{plain_free}
use Rattle.mpi.specs.declared.fault.MpiFault.TheVariants.{Unclosed}
use Rattle.std.specs.Prelude.{Ok, Err, ◌==◌, not, ◌&&◌, nat_lt}
use Rattle.std.specs.List.{list_all}
use Rattle.std.proofs.lemmas.Bool.{false≢true, le-ltb}
use Rattle.muck_model.specs.Bytes.{text_fault, text_most}
use Rattle.mpi.specs.Brackets.{byte, scan_begun, balances, escaped, call_ahead, first_piece, is_outside_brackets, byte_passed, formula_pieces, deeper}
use Rattle.mpi.specs.Made.{is_long}
use Rattle.mpi.specs.Thoughts.{MindState, Thought}
use Rattle.mpi.specs.Meaning.{Scene, spelled, body_entered, evaluated, nesting_most, meaning}
use Rattle.mpi.proofs.Inside.{text_short}
use Rattle.mpi.proofs.Spelling.{spelled_end, spelled_byte}
use Rattle.muck_model.specs.declared.dbref.Dbref.{Dbref}
use Rattle.spec_live.specs.Lives.{Live}
use Rattle.spec_rights.specs.declared.act.Actor.{Actor}
use Rattle.mpi.specs.Variables.{Variables}
use Rattle.mpi.specs.Meaning.{scene_of}
use Rattle.spec_mpi.specs.Doing.{powers}
use Rattle.spec_mpi.specs.Stages.{MpiStage}
use Rattle.spec_mpi.specs.Telling.{MpiAnswer}
use Rattle.spec_mpi.specs.Messages.{formula_heard, answer_shown, message_spoken, variables_of}
use Rattle.muck_perm.specs.declared.guard.Guard.{Guard}
use Rattle.muck_perm.specs.inner.Guards.{world_of, Did}
use Rattle.muck_model.specs.declared.memory.NoMemory.{NoMemory}
use Rattle.muck_mpi.specs.inner.Plain.{is_plain_byte, is_plain}

plain_first : (b : ℕ) (more : List ℕ) (x y z : Bool) → b == 92 ≡ x → b == 123 ≡ y → not x && (not y && not z) ≡ true → (byte b, more) ≡ first_piece b more
plain_first b more true y z e f h = absurd (false≢true h)
plain_first b more false true z e f h = absurd (false≢true h)
plain_first b more false false z e f h = rw (e, f) refl

first_plain : (b : ℕ) (more : List ℕ) → is_plain_byte b ≡ true → (byte b, more) ≡ first_piece b more
first_plain b more h = plain_first b more (b == 92) (b == 123) (b == 125) refl refl h

plain_passed : (b : ℕ) (x y z : Bool) → b == 92 ≡ x → b == 123 ≡ y → b == 125 ≡ z → not x && (not y && not z) ≡ true → byte_passed b scan_begun ≡ scan_begun
plain_passed b true y z e f g h = absurd (false≢true h)
plain_passed b false true z e f g h = absurd (false≢true h)
plain_passed b false false true e f g h = absurd (false≢true h)
plain_passed b false false false e f g h = rw (e, f, g) refl

balances_plain : (text : List ℕ) → is_plain text ≡ true → balances scan_begun text ≡ true
unfolding balances
balances_plain [] h = refl
balances_plain (b ∷ more) h =
    let plain : is_plain_byte b ≡ true = all_head is_plain_byte b more h in
    ap (λ t. cond t false (balances (byte_passed b scan_begun) more)) (plain_free (b == 92) (b == 123) (b == 125) plain)
    ∙ ap (λ s. balances s more) (plain_passed b (b == 92) (b == 123) (b == 125) refl refl refl plain)
    ∙ balances_plain more (all_tail is_plain_byte b more h)

short : (out : List ℕ) (b n : ℕ) → length out + n ≤ 4095 → is_long (out ++ b ∷ []) ≡ false
unfolding is_long
short out b n h = le-ltb _ _ (omega (arith, h, length-append out (b ∷ [])))

spelled_plain : {S : Type 0} (go : List ℕ → Thought S (List ℕ)) (out text : List ℕ) (s : MindState S) → is_plain text ≡ true → length out + length text ≤ text_most → spelled go out (formula_pieces text) s ≡ (Ok (out ++ text), s)
spelled_plain go out [] s h few = spelled_end go out s ∙ ap (λ t. (Ok t, s)) (sym (append-nil out))
spelled_plain go out (b ∷ more) s h few =
    spelled_byte go out b more more b s (first_plain b more (all_head is_plain_byte b more h)) (short out b (length more) (omega (arith, few)))
    ∙ spelled_plain go (out ++ b ∷ []) more s (all_tail is_plain_byte b more h) (omega (arith, few, length-append out (b ∷ [])))
    ∙ ap (λ t. (Ok t, s)) (append_assoc out (b ∷ []) more)

evaluated_plain : {S : Type 0} (scene : Scene S) (text : List ℕ) (s : MindState S) → text_fault text ≡ None → is_plain text ≡ true → evaluated scene text s ≡ (Ok text, (record s.0 { left = scene.powers.most s.1 }, s.1))
unfolding evaluated
evaluated_plain scene text s t h =
    ap (λ b. cond b (meaning scene nesting_most text (record s.0 { left = scene.powers.most s.1 }, s.1)) (Err Unclosed, s)) (balances_plain text h)
    ∙ spelled_plain (body_entered scene nesting_most) [] text _ h (omega (arith, text_short text t))

heard_plain : (a : Actor) (this : Dbref) (text : List ℕ) (vars : Variables) (w : Live) → text_fault text ≡ None → is_plain text ≡ true → formula_heard a this text vars w ≡ (Ok text, w)
unfolding formula_heard
heard_plain a this text vars w t h =
    let done : evaluated (scene_of powers this) text (record { variables = vars; left = 0 }, record { actor = a; live = w }) ≡ _ = evaluated_plain (scene_of powers this) text (record { variables = vars; left = 0 }, record { actor = a; live = w }) t h in
    λ i. ((done i).0, (done i).1.1.live)

-- it is shown as it is, and the world is as before
spoken_plain : (a : Actor) (this : Dbref) (how cmd arg text : List ℕ) (w : Live) → text_fault text ≡ None → is_plain text ≡ true → message_spoken a this how cmd arg text w ≡ (text, w)
unfolding message_spoken answer_shown
spoken_plain a this how cmd arg text w t h =
    let same : formula_heard a this text (variables_of how cmd arg) w ≡ (Ok text, w) = heard_plain a this text (variables_of how cmd arg) w t h in
    λ i. (answer_shown (same i).0, (same i).1)

pub plain_shown : (a : Actor) (this : Dbref) (how cmd arg text : List ℕ) (w : Live) → text_fault text ≡ None → is_plain text ≡ true → text ≡ (message_spoken a this how cmd arg text w).0
plain_shown a this how cmd arg text w t h = λ i. (sym (spoken_plain a this how cmd arg text w t h) i).0

pub plain_did : (this : Dbref) (how cmd arg text : List ℕ) (g : Guard) → text_fault text ≡ None → is_plain text ≡ true → Did {X = List ℕ} (λ w. (message_spoken g.actor this how cmd arg text w).1) g g (Ok text)
plain_did this how cmd arg text g t h = (λ i. (sym (spoken_plain g.actor this how cmd arg text (world_of g) t h) i).1, (refl, (refl, refl)))

pub ruleset plain_texts = (plain_shown, plain_did)
