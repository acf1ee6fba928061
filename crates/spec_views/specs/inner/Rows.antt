-- Worked rows: what is shown of programs that run.
use Rattle.std.specs.Prelude.{◌≡◌, ℕ, ℤ, pos, true, false, List, [], ◌∷◌, ◌++◌, take, codes}
use Rattle.spec_live.specs.Objects.{dbref_of}
use Rattle.muf_model.specs.declared.code.Literal.TheVariants.{Int}
use Rattle.muf_model.specs.declared.code.Offer.TheVariants.{All}
use Rattle.muf_model.specs.declared.code.Word.{Word}
use Rattle.muf_model.specs.declared.code.Word.TheVariants.{Literal, Variable, Primitive}
use Rattle.muf_model.specs.declared.prims.Primitive.TheVariants.{Pop, Add, IntToStr, Fetch, Swap, Notify}
use Rattle.muf_model.specs.Tree.{Block, stop, word, Tree}
use Rattle.muf_debug.specs.declared.view.View.{View}
use Rattle.muf_debug.specs.Shown.{views_told}
use Rattle.spec_events.specs.World.{World}
use Rattle.spec_events.specs.Slices.{sliced}
use Rattle.spec_events.specs.inner.Rows.{running, running_of, bounded, short, sevens, words, two_numbers}
use Rattle.spec_views.specs.Views.{views_of}
use Rattle.spec_views.specs.Showing.{tracer_behind}

-- what is kept of views while trace is on
abbrev pub traced : List View → List (List ℕ)
traced vs = (views_told vs (tracer_behind [] true [])).kept

-- and while a break stands at this line of the program `#3`
abbrev pub broken : ℕ → List View → List (List ℕ)
broken line vs = (views_told vs (tracer_behind [] false (record { program = dbref_of 3; line = line } ∷ []))).kept

-- these words on a line
abbrev pub on_line : ℕ → List Word → Block → Block
on_line n [] behind = behind
on_line n (w ∷ ws) behind = word n w (on_line n ws behind)

-- a program of one word, whose calls have so many variables, and whose last line is this
abbrev pub of_main : ℕ → ℕ → Block → Tree
of_main variables last body = record { words = record { name = codes "main"; offer = All; variables = variables; body = body; last = last } ∷ []; variables = 0 }

-- behind `: main`, the lines `pop 1 2 +`, `intostr me @ swap notify` and `;`
abbrev pub sum : Tree
sum = of_main 0 4 (on_line 2 (Primitive Pop ∷ Literal (Int (pos 1)) ∷ Literal (Int (pos 2)) ∷ Primitive Add ∷ [])
    (on_line 3 (Primitive IntToStr ∷ Variable (record { 0 = 0 }) ∷ Primitive Fetch ∷ Primitive Swap ∷ Primitive Notify ∷ []) stop))

-- One's program runs as the process 1, in its first slice
abbrev pub first_views : World → List View
first_views w = views_of (pos 1) w

-- in the slice behind it
abbrev pub next_views : World → List View
next_views w = views_of (pos 1) (sliced (pos 1) w)

-- ten units, of which a slice takes five
abbrev pub nine_sevens : World
nine_sevens = short (running (words (sevens 9)))

-- a process that comes to the third line of the program
abbrev pub comes : ℤ → View
comes pid = record { pid = pid; program = dbref_of 3; line = 3; stack = []; scope = [] }

pub record Rows : Type 0 where
  -- each unit, the last one at the end of its word
  pub trace_row : traced (first_views (running sum)) ≡
      codes "! 1 #3 2 1 \"\"" ∷ codes "! 1 #3 2 0" ∷ codes "! 1 #3 2 1 1" ∷ codes "! 1 #3 2 2 1 2"
      ∷ codes "! 1 #3 3 1 3" ∷ codes "! 1 #3 3 1 \"3\"" ∷ codes "! 1 #3 3 2 \"3\" var" ∷ codes "! 1 #3 3 2 \"3\" #1" ∷ codes "! 1 #3 3 2 #1 \"3\""
      ∷ codes "! 1 #3 4 0" ∷ []
  -- a line with a break, once; and a line on which nothing comes
  pub break_row : broken 3 (first_views (running sum)) ≡ codes "! 1 #3 3 1 3" ∷ []
  pub elsewhere_row : broken 5 (first_views (running sum)) ≡ []
  -- `: main pop ;`
  pub pop_row : traced (first_views (running (words (Primitive Pop ∷ [])))) ≡ codes "! 1 #3 1 1 \"\"" ∷ codes "! 1 #3 1 0" ∷ []
  -- with a variable
  pub scope_row : traced (first_views (running (of_main 1 1 (on_line 1 (Primitive Pop ∷ []) stop)))) ≡ codes "! 1 #3 1 1 \"\" | 0" ∷ codes "! 1 #3 1 0 | 0" ∷ []
  -- a unit that is one too many is seen as well
  pub limit_row : traced (first_views (bounded 3 (running_of 2 (words two_numbers)))) ≡
      codes "! 1 #3 1 1 \"\"" ∷ codes "! 1 #3 1 0" ∷ codes "! 1 #3 1 1 7" ∷ codes "! 1 #3 1 2 7 2" ∷ []
  -- the next slice goes on where the first one ended, and is on no other line
  pub next_row : traced (take 1 (next_views nine_sevens)) ≡ codes "! 1 #3 1 6 \"\" 7 7 7 7 7" ∷ []
  pub stays_row : broken 1 (first_views nine_sevens ++ next_views nine_sevens) ≡ codes "! 1 #3 1 1 \"\"" ∷ []
  -- no such process
  pub nobody_row : views_of (pos 2) (running sum) ≡ []
  -- each process comes to a line by itself
  pub others_row : broken 3 (comes (pos 1) ∷ comes (pos 2) ∷ comes (pos 1) ∷ []) ≡ codes "! 1 #3 3 0" ∷ codes "! 2 #3 3 0" ∷ []
