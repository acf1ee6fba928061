-- The items of a word are written in the acts that they grow from.
use Rattle.std.proofs.Common.{◌≡◌, ℕ, List, [], ◌∷◌, ◌++◌, Bool, true, false, cond, refl, subst, append_assoc}
use Rattle.std.specs.Prelude.{Ok, Err}
use Rattle.muf_model.specs.declared.code.Word.{Word}
use Rattle.muf_model.specs.declared.code.Word.TheVariants.{NextIndex, NextPair}
use Rattle.muf_model.specs.Tree.{if_word, try_word, begin_word, for_word, each_word, Block, stop, word, then_block}
use Rattle.muf_compile.specs.declared.act.Opening.TheVariants as opening
use Rattle.muf_compile.specs.declared.act.Act.{Act}
use Rattle.muf_compile.specs.declared.act.Act.TheVariants.{Wait, Title, Item, Jump, Open, Else, Then, Catch, EndCatch, Repeat, Until, End, Offer}
use Rattle.muf_compile.specs.declared.act.Reading.{Reading}
use Rattle.muf_compile.specs.declared.fault.CompileKind.TheVariants.{StrayBreak}
use Rattle.muf_compile.specs.Faults.{refuse}
use Rattle.muf_compile.specs.Growth as growth
use Rattle.muf_compile.specs.Growth.{Unfinished, first, second, turning, Growth, Grown, grow, growth_with_item, in_loop}
use Rattle.muf_compile.specs.inner.Spells.{at_line, Spells, nothing, item, jump, if_then, if_else, try_catch, begin_repeat, begin_until, for_repeat, each_repeat}

spells_then : (l : Bool) (a b : Block) (xs ys : List Reading) → Spells l a xs → Spells l b ys → Spells l (then_block a b) (xs ++ ys)
spells_then l a b xs ys nothing k = k
spells_then l a b xs ys (item h) k = item (spells_then l _ b _ ys h k)
spells_then l a b xs ys (jump h) k = jump (spells_then true _ b _ ys h k)
spells_then l a b xs ys (if_then last us {rs} h n) k = rw (append_assoc us (at_line last Then ∷ rs) ys) (if_then last us h (spells_then l _ b rs ys n k))
spells_then l a b xs ys (if_else {mid} last us vs {rs} h g n) k =
    rw (append_assoc us (at_line mid Else ∷ (vs ++ at_line last Then ∷ rs)) ys, append_assoc vs (at_line last Then ∷ rs) ys) (if_else last us vs h g (spells_then l _ b rs ys n k))
spells_then l a b xs ys (try_catch {mid} last us vs {rs} h g n) k =
    rw (append_assoc us (at_line mid Catch ∷ (vs ++ at_line last EndCatch ∷ rs)) ys, append_assoc vs (at_line last EndCatch ∷ rs) ys) (try_catch last us vs h g (spells_then l _ b rs ys n k))
spells_then l a b xs ys (begin_repeat {last} us {rs} h n) k = rw (append_assoc us (at_line last Repeat ∷ rs) ys) (begin_repeat us h (spells_then l _ b rs ys n k))
spells_then l a b xs ys (begin_until {last} us {rs} h n) k = rw (append_assoc us (at_line last Until ∷ rs) ys) (begin_until us h (spells_then l _ b rs ys n k))
spells_then l a b xs ys (for_repeat {last} us {rs} h n) k = rw (append_assoc us (at_line last Repeat ∷ rs) ys) (for_repeat us h (spells_then l _ b rs ys n k))
spells_then l a b xs ys (each_repeat {last} us {rs} h n) k = rw (append_assoc us (at_line last Repeat ∷ rs) ys) (each_repeat us h (spells_then l _ b rs ys n k))

-- a part of a word is written in the acts so far
pub data Written : Block → List Unfinished → List Reading → Type 0 where
  at_top : {now : Block} {rs : List Reading} → Spells false now rs → Written now [] rs
  in_if : {now before : Block} {us : List Unfinished} {line : ℕ} (xs ys : List Reading) → Written before us xs → Spells (in_loop us) now ys → Written now (first if_word line before ∷ us) (xs ++ at_line line (Open opening.If) ∷ ys)
  in_try : {now before : Block} {us : List Unfinished} {line : ℕ} (xs ys : List Reading) → Written before us xs → Spells (in_loop us) now ys → Written now (first try_word line before ∷ us) (xs ++ at_line line (Open opening.Try) ∷ ys)
  in_else : {now a before : Block} {us : List Unfinished} {line mid : ℕ} (xs ys zs : List Reading) → Written before us xs → Spells (in_loop us) a ys → Spells (in_loop us) now zs → Written now (second if_word line a mid before ∷ us) (xs ++ at_line line (Open opening.If) ∷ (ys ++ at_line mid Else ∷ zs))
  in_catch : {now a before : Block} {us : List Unfinished} {line mid : ℕ} (xs ys zs : List Reading) → Written before us xs → Spells (in_loop us) a ys → Spells (in_loop us) now zs → Written now (second try_word line a mid before ∷ us) (xs ++ at_line line (Open opening.Try) ∷ (ys ++ at_line mid Catch ∷ zs))
  in_begin : {now before : Block} {us : List Unfinished} {line : ℕ} (xs ys : List Reading) → Written before us xs → Spells true now ys → Written now (turning begin_word line before ∷ us) (xs ++ at_line line (Open opening.Begin) ∷ ys)
  in_for : {now before : Block} {us : List Unfinished} {line : ℕ} (xs ys : List Reading) → Written before us xs → Spells true now ys → Written (word line NextIndex now) (turning for_word line before ∷ us) (xs ++ at_line line (Open opening.For) ∷ ys)
  in_each : {now before : Block} {us : List Unfinished} {line : ℕ} (xs ys : List Reading) → Written before us xs → Spells true now ys → Written (word line NextPair now) (turning each_word line before ∷ us) (xs ++ at_line line (Open opening.Each) ∷ ys)

written_more : (now more : Block) (us : List Unfinished) (rs zs : List Reading) → Written now us rs → Spells (in_loop us) more zs → Written (then_block now more) us (rs ++ zs)
written_more now more us rs zs (at_top s) k = at_top (spells_then false _ more _ zs s k)
written_more now more us rs zs (in_if {line} xs ys w s) k = rw (append_assoc xs (at_line line (Open opening.If) ∷ ys) zs) (in_if xs (ys ++ zs) w (spells_then _ _ more ys zs s k))
written_more now more us rs zs (in_try {line} xs ys w s) k = rw (append_assoc xs (at_line line (Open opening.Try) ∷ ys) zs) (in_try xs (ys ++ zs) w (spells_then _ _ more ys zs s k))
written_more now more us rs zs (in_else {line} {mid} xs ys vs w s r) k =
    rw (append_assoc xs (at_line line (Open opening.If) ∷ (ys ++ at_line mid Else ∷ vs)) zs, append_assoc ys (at_line mid Else ∷ vs) zs) (in_else xs ys (vs ++ zs) w s (spells_then _ _ more vs zs r k))
written_more now more us rs zs (in_catch {line} {mid} xs ys vs w s r) k =
    rw (append_assoc xs (at_line line (Open opening.Try) ∷ (ys ++ at_line mid Catch ∷ vs)) zs, append_assoc ys (at_line mid Catch ∷ vs) zs) (in_catch xs ys (vs ++ zs) w s (spells_then _ _ more vs zs r k))
written_more now more us rs zs (in_begin {line} xs ys w s) k = rw (append_assoc xs (at_line line (Open opening.Begin) ∷ ys) zs) (in_begin xs (ys ++ zs) w (spells_then true _ more ys zs s k))
written_more now more us rs zs (in_for {line} xs ys w s) k = rw (append_assoc xs (at_line line (Open opening.For) ∷ ys) zs) (in_for xs (ys ++ zs) w (spells_then true _ more ys zs s k))
written_more now more us rs zs (in_each {line} xs ys w s) k = rw (append_assoc xs (at_line line (Open opening.Each) ∷ ys) zs) (in_each xs (ys ++ zs) w (spells_then true _ more ys zs s k))

-- after an act a part of the same word is written in these acts, and no word has come or gone
abbrev pub GrownWritten : Growth → Grown → List Reading → Type 0
GrownWritten g (Ok h) rs = Written h.now h.around rs × (h.words ≡ g.words) × (h.title ≡ g.title)
GrownWritten g (Err r) rs = Unit {0}

jumps : (b : Bool) → (line : ℕ) (w : Word) (g : Growth) (rs : List Reading) → b ≡ in_loop g.around → Written g.now g.around rs → GrownWritten g (cond b (Ok (growth_with_item g g.now g.around (word line w stop))) (refuse line StrayBreak)) (rs ++ at_line line (Jump w) ∷ [])
jumps true line w g rs e h = (written_more g.now (word line w stop) g.around rs _ h (subst (λ l. Spells l (word line w stop) (at_line line (Jump w) ∷ [])) e (jump nothing)), refl, refl)
jumps false line w g rs e h = tt

-- a word that closes a part or goes on to the next one: it is refused, or closes what is open innermost
else_written : (at : ℕ) (g : Growth) (now : Block) (us : List Unfinished) (rs : List Reading) → Written now us rs → GrownWritten g (growth.else_part at (record g { now = now }) us) (rs ++ at_line at Else ∷ [])
else_written at g now us rs (in_if {line} xs ys w s) = rw (append_assoc xs (at_line line (Open opening.If) ∷ ys) (at_line at Else ∷ [])) (in_else xs ys [] w s nothing, refl, refl)
else_written at g now us rs _ = tt

catch_written : (at : ℕ) (g : Growth) (now : Block) (us : List Unfinished) (rs : List Reading) → Written now us rs → GrownWritten g (growth.catch_part at (record g { now = now }) us) (rs ++ at_line at Catch ∷ [])
catch_written at g now us rs (in_try {line} xs ys w s) = rw (append_assoc xs (at_line line (Open opening.Try) ∷ ys) (at_line at Catch ∷ [])) (in_catch xs ys [] w s nothing, refl, refl)
catch_written at g now us rs _ = tt

then_written : (at : ℕ) (g : Growth) (now : Block) (us : List Unfinished) (rs : List Reading) → Written now us rs → GrownWritten g (growth.then_part at (record g { now = now }) us) (rs ++ at_line at Then ∷ [])
then_written at g now us rs (in_if {line} xs ys w s) = rw (append_assoc xs (at_line line (Open opening.If) ∷ ys) (at_line at Then ∷ [])) (written_more _ _ _ xs _ w (if_then at ys s nothing), refl, refl)
then_written at g now us rs (in_else {line} {mid} xs ys vs w s r) =
    rw (append_assoc xs (at_line line (Open opening.If) ∷ (ys ++ at_line mid Else ∷ vs)) (at_line at Then ∷ []), append_assoc ys (at_line mid Else ∷ vs) (at_line at Then ∷ [])) (written_more _ _ _ xs _ w (if_else at ys vs s r nothing), refl, refl)
then_written at g now us rs _ = tt

end_catch_written : (at : ℕ) (g : Growth) (now : Block) (us : List Unfinished) (rs : List Reading) → Written now us rs → GrownWritten g (growth.end_catch_part at (record g { now = now }) us) (rs ++ at_line at EndCatch ∷ [])
end_catch_written at g now us rs (in_catch {line} {mid} xs ys vs w s r) =
    rw (append_assoc xs (at_line line (Open opening.Try) ∷ (ys ++ at_line mid Catch ∷ vs)) (at_line at EndCatch ∷ []), append_assoc ys (at_line mid Catch ∷ vs) (at_line at EndCatch ∷ [])) (written_more _ _ _ xs _ w (try_catch at ys vs s r nothing), refl, refl)
end_catch_written at g now us rs _ = tt

repeat_written : (at : ℕ) (g : Growth) (now : Block) (us : List Unfinished) (rs : List Reading) → Written now us rs → GrownWritten g (growth.repeat_part at (record g { now = now }) us) (rs ++ at_line at Repeat ∷ [])
repeat_written at g now us rs (in_begin {line} xs ys w s) = rw (append_assoc xs (at_line line (Open opening.Begin) ∷ ys) (at_line at Repeat ∷ [])) (written_more _ _ _ xs _ w (begin_repeat ys s nothing), refl, refl)
repeat_written at g now us rs (in_for {line} xs ys w s) = rw (append_assoc xs (at_line line (Open opening.For) ∷ ys) (at_line at Repeat ∷ [])) (written_more _ _ _ xs _ w (for_repeat ys s nothing), refl, refl)
repeat_written at g now us rs (in_each {line} xs ys w s) = rw (append_assoc xs (at_line line (Open opening.Each) ∷ ys) (at_line at Repeat ∷ [])) (written_more _ _ _ xs _ w (each_repeat ys s nothing), refl, refl)
repeat_written at g now us rs _ = tt

until_written : (at : ℕ) (g : Growth) (now : Block) (us : List Unfinished) (rs : List Reading) → Written now us rs → GrownWritten g (growth.until_part at (record g { now = now }) us) (rs ++ at_line at Until ∷ [])
until_written at g now us rs (in_begin {line} xs ys w s) = rw (append_assoc xs (at_line line (Open opening.Begin) ∷ ys) (at_line at Until ∷ [])) (written_more _ _ _ xs _ w (begin_until ys s nothing), refl, refl)
until_written at g now us rs _ = tt

-- an act among the items of a word
abbrev pub IsInside : Act → Type 0
IsInside Wait = ⊥
IsInside (Title name) = ⊥
IsInside (End n) = ⊥
IsInside (Offer n o) = ⊥
IsInside _ = Unit {0}

pub grow_written : (line : ℕ) (a : Act) (g : Growth) (rs : List Reading) → IsInside a → Written g.now g.around rs → GrownWritten g (grow line a g) (rs ++ at_line line a ∷ [])
grow_written line Wait g rs i h = absurd i
grow_written line (Title name) g rs i h = absurd i
grow_written line (Item w) g rs i h = (written_more g.now (word line w stop) g.around rs _ h (item nothing), refl, refl)
grow_written line (Jump w) g rs i h = jumps (in_loop g.around) line w g rs refl h
grow_written line (Open opening.If) g rs i h = (in_if rs [] h nothing, refl, refl)
grow_written line (Open opening.Try) g rs i h = (in_try rs [] h nothing, refl, refl)
grow_written line (Open opening.Begin) g rs i h = (in_begin rs [] h nothing, refl, refl)
grow_written line (Open opening.For) g rs i h = (in_for rs [] h nothing, refl, refl)
grow_written line (Open opening.Each) g rs i h = (in_each rs [] h nothing, refl, refl)
grow_written line Else g rs i h = else_written line g g.now g.around rs h
grow_written line Then g rs i h = then_written line g g.now g.around rs h
grow_written line Catch g rs i h = catch_written line g g.now g.around rs h
grow_written line EndCatch g rs i h = end_catch_written line g g.now g.around rs h
grow_written line Repeat g rs i h = repeat_written line g g.now g.around rs h
grow_written line Until g rs i h = until_written line g g.now g.around rs h
grow_written line (End n) g rs i h = absurd i
grow_written line (Offer n o) g rs i h = absurd i
