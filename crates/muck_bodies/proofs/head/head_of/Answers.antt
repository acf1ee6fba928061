use Rattle.std.proofs.Common.{refl, arith}
use Rattle.muck_bodies.proofs.Heads.{short_head, shut_head, cut_head, whole_head, small_whole, large_whole}
use Rattle.muck_bodies.proofs.head.head_of.Goals as goal

pub returns-then-front-lt9-clause-head : goal.returns-then-front-lt9-clause-head
returns-then-front-lt9-clause-head c file size same = short_head c.args.front.now file c.args.left c.requires size same c.if-front-lt9.true

pub returns-then-front-ne1-clause-head : goal.returns-then-front-ne1-clause-head
returns-then-front-ne1-clause-head c file size same = shut_head c.args.front.now file c.args.left 0 size same c.if-front-ne1.true

pub returns-then-size-left-clause-head : goal.returns-then-size-left-clause-head
returns-then-size-left-clause-head c file size same = cut_head c.args.front.now file c.split_at.result.1.now c.args.left c.word_of-size.result size same c.split_at.ensures.back c.word_of-size.ensures c.if-size-left.true

pub returns-then-size-lt25-clause-head : goal.returns-then-size-lt25-clause-head
returns-then-size-lt25-clause-head c file size same =
    let w = whole_head c.args.front.now file c.split_at.result.1.now c.args.left c.word_of-size.result 0 size same c.split_at.ensures.back c.word_of-size.ensures c.if-front-ne1.false c.if-front-lt9.false c.if-size-left.false in
    small_whole (record { size = c.word_of-size.result; generation = 0; number = 0 }) file refl refl c.if-size-lt25.true w.0 w.1

pub returns-clause-head : goal.returns-clause-head
returns-clause-head c file size same =
    let w = whole_head c.args.front.now file c.split_at.result.1.now c.args.left c.word_of-size.result 0 size same c.split_at.ensures.back c.word_of-size.ensures c.if-front-ne1.false c.if-front-lt9.false c.if-size-left.false in
    large_whole (record { size = c.word_of-size.result; generation = c.generation_of.result; number = c.number_of.result }) c.args.front.now file c.split_at-2.result.1.now same c.split_at-2.ensures.back c.generation_of.ensures c.number_of.ensures (omega (arith, c.if-size-lt25.false)) w.0 w.1
