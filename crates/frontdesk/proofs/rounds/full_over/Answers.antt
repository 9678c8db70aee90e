-- `frontdesk::rounds::full_over` is safe and ends. That a column of the roster has 128 rows is known of the parameter.
use Rattle.std.proofs.Common.{rules}
use Rattle.frontdesk.proofs.rounds.full_over.Goals as goal

pub slice_bounds-wholes-end-2 : goal.slice_bounds-wholes-end-2
slice_bounds-wholes-end-2 c = search (rules, c.well_formed.0)

pub slice_bounds-halves-end : goal.slice_bounds-halves-end
slice_bounds-halves-end c = search (rules, c.well_formed.0)

pub slice_bounds-bytes-end : goal.slice_bounds-bytes-end
slice_bounds-bytes-end c = search (rules, c.well_formed.0)
