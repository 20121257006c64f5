use Rattle.std.proofs.Common.{arith}
use Rattle.cache_comp.specs.TwoPorts.{first_of, second_of}
use Rattle.cache_comp.specs.Cache.{send_ready, serve_bottom}
use Rattle.cache_comp.specs.CacheLaws.{ready_few, bottom_few}
use Rattle.cache_comp.proofs.RecLemmas.{few_more, same_room}
use Rattle.cache_comp.proofs.cache.Cache.run.Goals as goal

pub serve_top-above-requires-clause-room : goal.serve_top-above-requires-clause-room
serve_top-above-requires-clause-room c =
    let s = c.args.self.now in
    let p = first_of c.args.ports.now in
    let t = c.send_ready-sent.new.self in
    let q = second_of c.send_ready-sent.new.ports in
    let first = few_more c.args.recs.now c.send_ready-sent.new.recs (send_ready s p).records 1 c.send_ready-sent.ensures.records (ready_few s p) in
    let second = few_more c.send_ready-sent.new.recs c.serve_bottom-below.new.recs (serve_bottom t q).records 2 c.serve_bottom-below.ensures.records (bottom_few t q) in
    let here = same_room c.args.recs.now c.send_ready-sent.new.recs (send_ready s p).records c.send_ready-sent.ensures.records in
    let there = same_room c.send_ready-sent.new.recs c.serve_bottom-below.new.recs (serve_bottom t q).records c.serve_bottom-below.ensures.records in
    omega (arith, first, second, here, there, c.requires.room)
