-- The lines that wait and the editors behind a unit, a slice and a line.
use Rattle.std.proofs.Common.{◌≡◌, ◌⊎◌, ℕ, ◌+◌, suc, Bool, true, false, cond, List, [], ◌∷◌, find, map, refl, sym, ◌∙◌, ap, subst, eqb-true, arith, Option, Some, None, inl, inr}
use Rattle.std.specs.Prelude.{◌==◌}
use Rattle.std.specs.Option.{option_map, option_map_or, option_and_then}
use Rattle.std.proofs.lemmas.Bool.Decides.{nat_tests}
use Rattle.muck_model.specs.declared.dbref.Dbref.{Dbref}
use Rattle.muck_model.specs.declared.edit.EditState.{EditState}
use Rattle.spec_live.specs.declared.mark.Mark.{Mark}
use Rattle.spec_live.specs.declared.mark.Mark.TheVariants.{Lines, Gone}
use Rattle.spec_live.specs.Objects.{Entry, dbref_of, mark_in, same}
use Rattle.spec_live.specs.Connections.{Connection, is_connection, changed_in, edits, editor_set, edited_where}
use Rattle.spec_live.specs.Boards.{editors_closed}
use Rattle.muck_model.proofs.Dbrefs.{eq_same}
use Rattle.spec_events.specs.World.{World}
use Rattle.spec_events.specs.Following.{mark_followed, swept, settled}
use Rattle.spec_origins.specs.Seats.{SameEditor}
use Rattle.spec_origins.proofs.Seats.{seat, seats}

-- One connection by its number.

abbrev pub found : ℕ → List Connection → Option Connection
found d cs = find (is_connection d) cs

abbrev pub lines_in : ℕ → List Connection → Option (List (List ℕ))
lines_in d cs = option_map (λ (c : Connection). c.waiting) (found d cs)

abbrev pub editor_in : ℕ → List Connection → Option EditState
editor_in d cs = option_and_then (λ (c : Connection). c.editor) (found d cs)

-- what is seated alike is found alike
found_seats : (d : ℕ) (cs ds : List Connection) → seats ds ≡ seats cs → option_map seat (found d ds) ≡ option_map seat (found d cs)
found_seats d [] [] e = refl
found_seats d [] (y ∷ ys) e = absurd cc
found_seats d (x ∷ xs) [] e = absurd cc
found_seats d (x ∷ xs) (y ∷ ys) e =
    let head : seat y ≡ seat x = cc in
    let rest : seats ys ≡ seats xs = cc in
    let number : y.number ≡ x.number = ap (λ (t : ℕ × List (List ℕ) × Option EditState). t.0) head in
    let next = found_seats d xs ys rest in
    let P : ℕ → Type 0 = λ n. option_map seat (cond (n == d) (Some y) (found d ys)) ≡ option_map seat (cond (x.number == d) (Some x) (found d xs)) in
    subst P (sym number) (elim (x.number == d) as (λ b. option_map seat (cond b (Some y) (found d ys)) ≡ option_map seat (cond b (Some x) (found d xs))) [ true ↦ ap (λ t. Some t) head | false ↦ next ])

lines_seat : (o : Option Connection) → option_map (λ (c : Connection). c.waiting) o ≡ option_map (λ t. t.1) (option_map seat o)
lines_seat None = refl
lines_seat (Some c) = refl

editor_seat : (o : Option Connection) → option_and_then (λ (c : Connection). c.editor) o ≡ option_and_then (λ t. t.2) (option_map seat o)
editor_seat None = refl
editor_seat (Some c) = refl

pub lines_sit : (d : ℕ) (cs ds : List Connection) → seats ds ≡ seats cs → lines_in d ds ≡ lines_in d cs
lines_sit d cs ds e = lines_seat (found d ds) ∙ ap (λ (o : Option (ℕ × List (List ℕ) × Option EditState)). option_map (λ t. t.1) o) (found_seats d cs ds e) ∙ sym (lines_seat (found d cs))

pub editor_sits : (d : ℕ) (cs ds : List Connection) → seats ds ≡ seats cs → editor_in d ds ≡ editor_in d cs
editor_sits d cs ds e = editor_seat (found d ds) ∙ ap (λ (o : Option (ℕ × List (List ℕ) × Option EditState)). option_and_then (λ t. t.2) o) (found_seats d cs ds e) ∙ sym (editor_seat (found d cs))

-- one connection is changed
pub found_changed : (d n : ℕ) (f : Connection → Connection) → ((c : Connection) → (f c).number ≡ c.number) → (cs : List Connection) → found d (changed_in n f cs) ≡ cond (n == d) (option_map f (found d cs)) (found d cs)
found_changed d n f keeps [] = at (n == d)
  where
    at : (b : Bool) → ◌≡◌ {A = Option Connection} None (cond b None None)
    at true = refl
    at false = refl
found_changed d n f keeps (c ∷ cs) = by_first (c.number == n) refl (c.number == d) refl (n == d) refl (found_changed d n f keeps cs)
  where
    Goal : Bool → Bool → Bool → Type 0
    Goal s t u = found d (cond s (f c ∷ cs) (c ∷ changed_in n f cs)) ≡ cond u (option_map f (cond t (Some c) (found d cs))) (cond t (Some c) (found d cs))

    here : (t : Bool) → (c.number == d) ≡ t → found d (f c ∷ cs) ≡ cond t (Some (f c)) (found d cs)
    here t e = ap (λ (n : ℕ). cond (n == d) (Some (f c)) (found d cs)) (keeps c) ∙ ap (λ (b : Bool). cond b (Some (f c)) (found d cs)) e

    there : (t : Bool) → (c.number == d) ≡ t → found d (c ∷ changed_in n f cs) ≡ cond t (Some c) (found d (changed_in n f cs))
    there t e = ap (λ (b : Bool). cond b (Some c) (found d (changed_in n f cs))) e

    clash : (m n d : ℕ) (t u : Bool) → (m == n) ≡ true → (m == d) ≡ t → (n == d) ≡ u → t ≡ u
    clash m n d t u e g h = sym g ∙ ap (λ (k : ℕ). k == d) (eqb-true m n e) ∙ h

    apart : (m n d : ℕ) → (m == n) ≡ false → (m == d) ≡ true → (n == d) ≡ true → ⊥
    apart m n d e g h = grind (arith, nat_tests)

    never : true ≡ false → ⊥
    never e = cc

    by_first : (s : Bool) → (c.number == n) ≡ s → (t : Bool) → (c.number == d) ≡ t → (u : Bool) → (n == d) ≡ u → found d (changed_in n f cs) ≡ cond (n == d) (option_map f (found d cs)) (found d cs) → Goal s t u
    by_first true e true g true h k = here true g
    by_first true e false g false h k = here false g
    by_first true e true g false h k = absurd (never (clash c.number n d true false e g h))
    by_first true e false g true h k = absurd (never (sym (clash c.number n d false true e g h)))
    by_first false e true g true h k = absurd (apart c.number n d e g h)
    by_first false e true g false h k = there true g
    by_first false e false g u h k = there false g ∙ k ∙ ap (λ (b : Bool). cond b (option_map f (found d cs)) (found d cs)) h

-- all of them are
pub found_map : (d : ℕ) (f : Connection → Connection) → ((c : Connection) → (f c).number ≡ c.number) → (cs : List Connection) → found d (map f cs) ≡ option_map f (found d cs)
found_map d f keeps [] = refl
found_map d f keeps (c ∷ cs) =
    ap (λ (n : ℕ). cond (n == d) (Some (f c)) (found d (map f cs))) (keeps c) ∙ at (c.number == d) (found_map d f keeps cs)
  where
    at : (b : Bool) → found d (map f cs) ≡ option_map f (found d cs) → cond b (Some (f c)) (found d (map f cs)) ≡ option_map f (cond b (Some c) (found d cs))
    at true e = refl
    at false e = e

-- Editors.

module _ (Lost : Dbref → Type 0) where
  editor_both : (a b c : Option EditState) → SameEditor Lost a b → SameEditor Lost b c → SameEditor Lost a c
  editor_both a b c (inl e) (inl f) = inl (f ∙ e)
  editor_both a b c (inl e) (inr k) = inr (k.0, (k.1.0, sym e ∙ k.1.1, k.1.2))
  editor_both a b c (inr k) (inl f) = inr (f ∙ k.0, k.1)
  editor_both a b c (inr k) (inr l) = inr (l.0, k.1)

  -- The lines are those, and the editor of every connection but its own is as it was then or lost.
  pub record Kept (own : ℕ → Bool) (cs ds : List Connection) : Type 0 where
    pub lines : (d : ℕ) → lines_in d ds ≡ lines_in d cs
    pub editors : (d : ℕ) → (own d ≡ true) ⊎ SameEditor Lost (editor_in d cs) (editor_in d ds)

  either_both : (t : Type 0) (a b c : Option EditState) → t ⊎ SameEditor Lost a b → t ⊎ SameEditor Lost b c → t ⊎ SameEditor Lost a c
  either_both t a b c (inl o) k = inl o
  either_both t a b c (inr g) (inl o) = inl o
  either_both t a b c (inr g) (inr h) = inr (editor_both a b c g h)

  pub kept_both : (own : ℕ → Bool) (cs ds es : List Connection) → Kept own cs ds → Kept own ds es → Kept own cs es
  kept_both own cs ds es g h = record {
    lines = λ d. h.lines d ∙ g.lines d;
    editors = λ d. either_both (own d ≡ true) (editor_in d cs) (editor_in d ds) (editor_in d es) (g.editors d) (h.editors d);
  }

  pub kept_sits : (own : ℕ → Bool) (cs ds : List Connection) → seats ds ≡ seats cs → Kept own cs ds
  kept_sits own cs ds e = record { lines = λ d. lines_sit d cs ds e; editors = λ d. inr (inl (editor_sits d cs ds e)) }

  -- an editor is opened or closed on its own connection
  pub own_editor : (own : ℕ → Bool) (n : ℕ) (editor : Option EditState) → own n ≡ true → (cs : List Connection) → Kept own cs (changed_in n (editor_set editor) cs)
  own_editor own n editor o cs = record { lines = λ d. lines_so d (n == d) (found_changed d n (editor_set editor) (λ c. refl) cs); editors = λ d. editors_so d (n == d) refl (found_changed d n (editor_set editor) (λ c. refl) cs) }
    where
      same_lines : (o : Option Connection) → option_map (λ (c : Connection). c.waiting) (option_map (editor_set editor) o) ≡ option_map (λ (c : Connection). c.waiting) o
      same_lines None = refl
      same_lines (Some c) = refl

      lines_so : (d : ℕ) (b : Bool) → found d (changed_in n (editor_set editor) cs) ≡ cond b (option_map (editor_set editor) (found d cs)) (found d cs) → lines_in d (changed_in n (editor_set editor) cs) ≡ lines_in d cs
      lines_so d true e = ap (λ (o : Option Connection). option_map (λ (c : Connection). c.waiting) o) e ∙ same_lines (found d cs)
      lines_so d false e = ap (λ (o : Option Connection). option_map (λ (c : Connection). c.waiting) o) e

      editors_so : (d : ℕ) (b : Bool) → (n == d) ≡ b → found d (changed_in n (editor_set editor) cs) ≡ cond b (option_map (editor_set editor) (found d cs)) (found d cs) →
          (own d ≡ true) ⊎ SameEditor Lost (editor_in d cs) (editor_in d (changed_in n (editor_set editor) cs))
      editors_so d true is e = inl (ap own (sym (eqb-true n d is)) ∙ o)
      editors_so d false is e = inr (inl (ap (λ (o : Option Connection). option_and_then (λ (c : Connection). c.editor) o) e))

  -- editors of a program that is lost are closed
  closed_kept : (own : ℕ → Bool) (x : Dbref) → Lost x → (cs : List Connection) → Kept own cs (map (edited_where (edits x) None) cs)
  closed_kept own x l cs = record {
    lines = λ d. ap (λ (o : Option Connection). option_map (λ (c : Connection). c.waiting) o) (found_map d (edited_where (edits x) None) number cs) ∙ same_lines (found d cs);
    editors = λ d. inr (subst (λ (o : Option Connection). SameEditor Lost (editor_in d cs) (option_and_then (λ (c : Connection). c.editor) o)) (sym (found_map d (edited_where (edits x) None) number cs)) (closed (found d cs)));
  }
    where
      by_number : (b : Bool) (c : Connection) → (cond b (editor_set None c) c).number ≡ c.number
      by_number true c = refl
      by_number false c = refl

      number : (c : Connection) → (edited_where (edits x) None c).number ≡ c.number
      number c = by_number (edits x c) c

      by_lines : (b : Bool) (c : Connection) → (cond b (editor_set None c) c).waiting ≡ c.waiting
      by_lines true c = refl
      by_lines false c = refl

      same_lines : (o : Option Connection) → option_map (λ (c : Connection). c.waiting) (option_map (edited_where (edits x) None) o) ≡ option_map (λ (c : Connection). c.waiting) o
      same_lines None = refl
      same_lines (Some c) = ap (λ lines. Some lines) (by_lines (edits x c) c)

      one : (o : Option EditState) → option_map_or (λ s. same x s.program) o false ≡ true → (s : EditState) × (o ≡ Some s) × Lost s.program
      one None e = absurd cc
      one (Some s) e = (s, refl, subst Lost (eq_same x s.program e) l)

      by_edits : (c : Connection) (b : Bool) → edits x c ≡ b → SameEditor Lost c.editor (cond b (editor_set None c) c).editor
      by_edits c true e = inr (refl, one c.editor e)
      by_edits c false e = inl refl

      closed : (o : Option Connection) → SameEditor Lost (option_and_then (λ (c : Connection). c.editor) o) (option_and_then (λ (c : Connection). c.editor) (option_map (edited_where (edits x) None) o))
      closed None = inl refl
      closed (Some c) = by_edits c (edits x c) refl

  -- What follows from a change of objects.

  abbrev pub Keeps : (ℕ → Bool) → World → World → Type 0
  Keeps own w v = Kept own w.live.board.connections v.live.board.connections

  keeps_followed : (own : ℕ → Bool) (m : Mark) (x : Dbref) → Lost x → (w : World) → Keeps own w (mark_followed m x w)
  unfolding editors_closed
  keeps_followed own Lines x l w = kept_sits own w.live.board.connections w.live.board.connections refl
  keeps_followed own Gone x l w = closed_kept own x l w.live.board.connections

  keeps_marked : (own : ℕ → Bool) (o : Option Mark) (x : Dbref) → ((m : Mark) → o ≡ Some m → Lost x) → (w : World) → Keeps own w (option_map_or (λ m. mark_followed m x w) o w)
  keeps_marked own None x l w = kept_sits own w.live.board.connections w.live.board.connections refl
  keeps_marked own (Some m) x l w = keeps_followed own m x (l m refl) w

  abbrev Told : ℕ → List Entry → Type 0
  Told n es = (k : ℕ) (m : Mark) → mark_in es k ≡ Some m → Lost (dbref_of (n + k))

  told_first : (e : Entry) (es : List Entry) (n : ℕ) → Told n (e ∷ es) → (m : Mark) → e.mark ≡ Some m → Lost (dbref_of n)
  unfolding mark_in
  told_first e es n h m f = subst (λ i. Lost (dbref_of i)) (past n) (h 0 m f)
    where
      past : (n : ℕ) → n + 0 ≡ n
      past n = omega arith

  told_rest : (e : Entry) (es : List Entry) (n : ℕ) → Told n (e ∷ es) → Told (suc n) es
  unfolding mark_in
  told_rest e es n h k m f = subst (λ i. Lost (dbref_of i)) (past n k) (h (suc k) m f)
    where
      past : (n k : ℕ) → n + suc k ≡ suc n + k
      past n k = omega arith

  keeps_swept : (own : ℕ → Bool) (n : ℕ) (es : List Entry) (w : World) → Told n es → Keeps own w (swept n es w)
  unfolding swept
  keeps_swept own n [] w t = kept_sits own w.live.board.connections w.live.board.connections refl
  keeps_swept own n (e ∷ es) w t =
      let u : World = option_map_or (λ m. mark_followed m (dbref_of n) w) e.mark w in
      kept_both own w.live.board.connections u.live.board.connections (swept (suc n) es u).live.board.connections (keeps_marked own e.mark (dbref_of n) (told_first e es n t) w) (keeps_swept own (suc n) es u (told_rest e es n t))

  pub keeps_settled : (own : ℕ → Bool) (w : World) → ((k : ℕ) (m : Mark) → mark_in w.live.objects k ≡ Some m → Lost (dbref_of k)) → Keeps own w (settled w)
  unfolding settled
  keeps_settled own w t = keeps_swept own 0 w.live.objects w (λ k m e. subst (λ i. Lost (dbref_of i)) (first k) (t k m e))
    where
      first : (k : ℕ) → k ≡ 0 + k
      first k = omega arith
