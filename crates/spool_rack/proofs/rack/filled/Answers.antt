use Rattle.spool_rack.proofs.ShelfLemmas.{filled_room}
use Rattle.spool_rack.proofs.rack.filled.Goals as goal

pub invariant_of-result : goal.invariant_of-result
invariant_of-result g c =
    let room = filled_room g.row.D.Denot c.args.found.items c.args.shelves c.shelve.new.shelves c.args.broken c.args.out
    c.args.room c.requires.readable c.requires.few c.requires.bare c.shelve.ensures in
    (room, c.requires.spare)
