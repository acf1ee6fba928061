-- What was written of a script so far.
use Rattle.std.specs.Prelude.{OnErr, Result}
use Rattle.std.proofs.Common.{◌≡◌, true, false, ℕ, ◌+◌, ◌<◌, ◌≤◌, List, [], ◌∷◌, ◌++◌, length, take, drop, get_or, take-append-drop, Option, refl, sym, ◌∙◌, ap, subst, append_assoc, append-nil}
use Rattle.std.proofs.Math.ListN.{drop_of_length-le}
use Rattle.std.proofs.lemmas.List.{drop_more}
use Rattle.std.proofs.Math.Seq.{take-append_seam}
use Rattle.muck_io.specs.Sink.{Appends, AppendsFront}
use Rattle.muck_io.proofs.Appended.{appends_twice}
use Rattle.muck_log.specs.Store.{Chosen, pick}
use Rattle.muck_mirror.specs.Mirrors.{Mirror, mirror_made}
use Rattle.muck_bodies.specs.Bodies.{bodies_of, IsStart}
use Rattle.muck_bodies.specs.declared.beginning.Start.{Start}
use Rattle.muck_follow.specs.declared.act.Act.{Act}
use Rattle.muck_follow.specs.Following.{reply_of, mirror_after_act, replies, script_replies}

-- a front of what all lines have replied, and the mirror that is behind them
pub record SoFar (acts rest : List Act) (bodies : List (List ℕ)) (m n : Mirror) (before now : Option (List ℕ)) : Type 0 where
  pub part : List ℕ
  pub whole : part ++ replies rest bodies n ≡ replies acts bodies m
  pub written : Appends before now part

next_replies : (act : Act) (acts : List Act) (bodies : List (List ℕ)) (m : Mirror) → replies (act ∷ acts) bodies m ≡ reply_of act bodies m ++ replies acts bodies (mirror_after_act act bodies m)
unfolding replies
next_replies act acts bodies m = refl

-- the reply to one line more
pub one_more : (acts rest : List Act) (act : Act) (bodies : List (List ℕ)) (m n k : Mirror) (a b c : Option (List ℕ)) (text : List ℕ) → SoFar acts (act ∷ rest) bodies m n a b → text ≡ reply_of act bodies n → k ≡ mirror_after_act act bodies n → Appends b c text
    → SoFar acts rest bodies m k a c
one_more acts rest act bodies m n k a b c text so is left more = record {
  part = so.part ++ text;
  whole = append_assoc so.part text (replies rest bodies k)
      ∙ ap (λ t. so.part ++ (t ++ replies rest bodies k)) is ∙ ap (λ (x : Mirror). so.part ++ (reply_of act bodies n ++ replies rest bodies x)) left
      ∙ ap (λ t. so.part ++ t) (sym (next_replies act rest bodies n)) ∙ so.whole;
  written = appends_twice a b c so.part text so.written more;
}

no_replies : (bodies : List (List ℕ)) (m : Mirror) → replies [] bodies m ≡ []
unfolding replies
no_replies bodies m = refl

-- all of them
pub all_written : (acts : List Act) (bodies : List (List ℕ)) (m n : Mirror) (a b : Option (List ℕ)) → SoFar acts [] bodies m n a b → Appends a b (replies acts bodies m)
all_written acts bodies m n a b so =
    let e : so.part ≡ replies acts bodies m = sym (append-nil so.part) ∙ ap (λ t. so.part ++ t) (sym (no_replies bodies n)) ∙ so.whole in
    let P : List ℕ → Type 0 = Appends a b in
    subst P e so.written

front_of : (part rest all : List ℕ) (a b : Option (List ℕ)) → part ++ rest ≡ all → Appends a b part → AppendsFront a b all
front_of part rest all a b e h =
    let P : List ℕ → Type 0 = Appends a b in
    (length part, subst P (sym (take-append_seam part rest) ∙ ap (take (length part)) e) h)

-- nothing of the next reply was written
pub stopped : (acts rest : List Act) (bodies : List (List ℕ)) (m n : Mirror) (a b : Option (List ℕ)) → SoFar acts rest bodies m n a b → AppendsFront a b (replies acts bodies m)
stopped acts rest bodies m n a b so = front_of so.part (replies rest bodies n) (replies acts bodies m) a b so.whole so.written

-- a front of it was
pub cut_short : (acts rest : List Act) (act : Act) (bodies : List (List ℕ)) (m n : Mirror) (a b c : Option (List ℕ)) (text : List ℕ) → SoFar acts (act ∷ rest) bodies m n a b → text ≡ reply_of act bodies n → AppendsFront b c text
    → AppendsFront a c (replies acts bodies m)
cut_short acts rest act bodies m n a b c text so is front =
    let others = replies rest bodies (mirror_after_act act bodies n) in
    front_of (so.part ++ take front.0 text) (drop front.0 text ++ others) (replies acts bodies m) a c
    (append_assoc so.part (take front.0 text) (drop front.0 text ++ others)
    ∙ ap (λ t. so.part ++ t) (sym (append_assoc (take front.0 text) (drop front.0 text) others) ∙ ap (λ t. t ++ others) (take-append-drop front.0 text ∙ is) ∙ sym (next_replies act rest bodies n))
    ∙ so.whole)
    (appends_twice a b c so.part (take front.0 text) so.written front.1)

-- the lines that are left, with the next of them
pub rest_is : (acts : List Act) (i : ℕ) (act : Act) (d : Act) → i < length acts → act ≡ get_or acts i d → drop i acts ≡ act ∷ drop (i + 1) acts
rest_is acts i act d lt is = drop_more acts i d lt ∙ ap (λ x. x ∷ drop (i + 1) acts) (sym is)

pub none_left : (acts : List Act) (i : ℕ) → length acts ≤ i → drop i acts ≡ []
none_left acts i le = drop_of_length-le acts le

-- One line of all of them, where the file is as it was.

pub line_done : (acts : List Act) (i : ℕ) (act d : Act) (file now : List ℕ) (m n k : Mirror) (a b c : Option (List ℕ)) (text : List ℕ) → i < length acts → act ≡ get_or acts i d → now ≡ file
    → SoFar acts (drop i acts) (bodies_of file) m n a b → text ≡ reply_of act (bodies_of now) n → k ≡ mirror_after_act act (bodies_of now) n → Appends b c text → SoFar acts (drop (i + 1) acts) (bodies_of file) m k a c
line_done acts i act d file now m n k a b c text lt is same so reads left more =
    one_more acts (drop (i + 1) acts) act (bodies_of file) m n k a b c text
    (subst (λ rest. SoFar acts rest (bodies_of file) m n a b) (rest_is acts i act d lt is) so)
    (reads ∙ ap (λ l. reply_of act (bodies_of l) n) same) (left ∙ ap (λ l. mirror_after_act act (bodies_of l) n) same) more

pub line_cut_short : (acts : List Act) (i : ℕ) (act d : Act) (file now : List ℕ) (m n : Mirror) (a b c : Option (List ℕ)) (text : List ℕ) → i < length acts → act ≡ get_or acts i d → now ≡ file
    → SoFar acts (drop i acts) (bodies_of file) m n a b → text ≡ reply_of act (bodies_of now) n → AppendsFront b c text → AppendsFront a c (replies acts (bodies_of file) m)
line_cut_short acts i act d file now m n a b c text lt is same so reads front =
    cut_short acts (drop (i + 1) acts) act (bodies_of file) m n a b c text
    (subst (λ rest. SoFar acts rest (bodies_of file) m n a b) (rest_is acts i act d lt is) so)
    (reads ∙ ap (λ l. reply_of act (bodies_of l) n) same) front

pub lines_done : (acts : List Act) (i : ℕ) (bodies : List (List ℕ)) (m n : Mirror) (a b : Option (List ℕ)) → length acts ≤ i → SoFar acts (drop i acts) bodies m n a b → Appends a b (replies acts bodies m)
lines_done acts i bodies m n a b le so = all_written acts bodies m n a b (subst (λ rest. SoFar acts rest bodies m n a b) (none_left acts i le) so)

-- The replies of the mirror that was made are those of the mirror of the store.

pub told_is : (acts : List Act) (s : Chosen) (file counts : List ℕ) (start : Start) (m : Mirror) → IsStart start s counts → file ≡ counts → m ≡ mirror_made start.generation start.first → replies acts (bodies_of file) m ≡ script_replies acts s counts
told_is acts s file counts start m is same new =
    ap (λ l. replies acts (bodies_of l) m) same
    ∙ ap (replies acts (bodies_of counts)) (new ∙ ap (λ g. mirror_made g start.first) is.generation ∙ ap (mirror_made s.held.generation) is.first)

pub second_counts : (s : Chosen) (a b file : List ℕ) (start : Start) → IsStart start s (pick s.second a b) → start.second ≡ true → file ≡ b → file ≡ pick s.second a b
second_counts s a b file start is second same = same ∙ ap (λ k. pick k a b) (sym (sym is.second ∙ second))

pub first_counts : (s : Chosen) (a b file : List ℕ) (start : Start) → IsStart start s (pick s.second a b) → start.second ≡ false → file ≡ a → file ≡ pick s.second a b
first_counts s a b file start is second same = same ∙ ap (λ k. pick k a b) (sym (sym is.second ∙ second))

pub on_error_as : (A E : Type 0) (r : Result A E) (a b : Option (List ℕ)) (x y : List ℕ) → x ≡ y → OnErr r (AppendsFront a b x) → OnErr r (AppendsFront a b y)
on_error_as A E r a b x y e h = let P : List ℕ → Type 0 = λ l. OnErr r (AppendsFront a b l) in subst P e h
