-- A change of a part of the world, as what happens.
use Rattle.std.proofs.Common.{◌≡◌, ℕ, ◌≤◌, List, [], ◌∷◌, false, refl, ◌∙◌, ap, arith, codes}
use Rattle.std.specs.Prelude.{ℤ}
use Rattle.std.proofs.lemmas.Bool.{cond_both}
use Rattle.muck_model.specs.declared.tune.Tune.{Tune}
use Rattle.muck_model.specs.declared.event.Event.TheVariants.{Opened, Claim, Lost, Take}
use Rattle.spec_live.specs.Objects.{Entry}
use Rattle.spec_live.specs.Output.{output_taken}
use Rattle.spec_live.specs.Connections.{Connection, is_connection, changed_in}
use Rattle.spec_live.specs.Boards.{Board, early_board, connection_opened, bytes_taken, with_connections}
use Rattle.spec_live.specs.Lives.{on_board}
use Rattle.spec_commands.specs.Talk.{welcome}
use Rattle.muck_board.proofs.Outputs.{taken_rest}
use Rattle.muck_library.specs.Library.{Library}
use Rattle.muck_queue.specs.Queues.{Queue, empty_queue, claimed, released}
use Rattle.spec_events.specs.World.{World, Dumps, no_dumps, world_booted, on_live, on_queue}
use Rattle.spec_events.specs.Steps.{happened}

-- the board of a state that is seen as w is changed so
board_so : (f : Board → Board) (w v : World) (b : Board) → b ≡ f w.live.board → w ≡ v → record w { live = record w.live { board = b } } ≡ on_live (on_board f) v
board_so f w v b is seen = ap (λ (x : Board). record w { live = record w.live { board = x } }) is ∙ ap (on_live (on_board f)) seen

pub taken_so : (d n : ℕ) (w v : World) (b : Board) → b ≡ bytes_taken d n w.live.board → w ≡ v → record w { live = record w.live { board = b } } ≡ happened v 0 (Take d n)
taken_so d n = board_so (bytes_taken d n)

pub opened_so : (d : ℕ) (w v : World) (b : Board) → b ≡ connection_opened d (codes "Use: connect NAME PASSWORD, WHO or QUIT.") w.live.board → w ≡ v → record w { live = record w.live { board = b } } ≡ happened v 0 (Opened d)
unfolding welcome
opened_so d = board_so (connection_opened d welcome)

pub claimed_so : (pid : ℤ) (party : ℕ) (w v : World) (q : Queue) → q ≡ claimed pid party w.queue → w ≡ v → record w { queue = q } ≡ happened v party (Claim pid)
claimed_so pid party w v q is seen = ap (λ (x : Queue). record w { queue = x }) is ∙ ap (on_queue (claimed pid party)) seen

pub lost_so : (pid : ℤ) (party : ℕ) (w v : World) (q : Queue) → q ≡ released pid w.queue → w ≡ v → record w { queue = q } ≡ happened v party (Lost pid)
lost_so pid party w v q is seen = ap (λ (x : Queue). record w { queue = x }) is ∙ ap (on_queue (released pid)) seen

-- how it begins, by its parts
pub booted_so : (objects : List Entry) (tune : Tune) (moment start : ℕ) (board : Board) (library : Library) (queue : Queue) (dumps : Dumps) → board ≡ early_board start tune → library ≡ [] → queue ≡ empty_queue → dumps ≡ no_dumps moment →
    record { live = record { objects = objects; board = board }; library = library; queue = queue; moment = moment; dumps = dumps; stopping = false; dead = false } ≡ world_booted objects tune moment start
unfolding world_booted
booted_so objects tune moment start board library queue dumps b l q n = rw (b, l, q, n) refl

-- no bytes are taken
none_in : (d : ℕ) (cs : List Connection) → changed_in d (λ c. record c { output = output_taken 0 c.output }) cs ≡ cs
none_in d [] = refl
none_in d (c ∷ cs) =
    let f : Connection → Connection = λ x. record x { output = output_taken 0 x.output } in
    cond_both (is_connection d c) (f c ∷ cs) (c ∷ changed_in d f cs) (λ l. l ≡ c ∷ cs)
    (λ e. ap (λ o. record c { output = o } ∷ cs) (taken_rest 0 c.output (omega arith)))
    (λ e. ap (λ l. c ∷ l) (none_in d cs))

-- and the world is as before
pub none_taken : (d n : ℕ) (w : World) → n ≤ 0 → happened w 0 (Take d n) ≡ w
unfolding bytes_taken
none_taken d n w h =
    let none : n ≡ 0 = omega arith in
    ap (λ m. happened w 0 (Take d m)) none ∙ ap (λ cs. record w { live = record w.live { board = with_connections cs w.live.board } }) (none_in d w.live.board.connections)
