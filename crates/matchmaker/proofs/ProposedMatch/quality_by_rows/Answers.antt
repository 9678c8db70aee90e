-- `ProposedMatch::quality_by_rows` meets its contract: the first rows are team A's, and those behind them team B's.
use Rattle.std.proofs.Common.{◌≡◌, length, sym, arith, length-take-le, rules}
use Rattle.base.proofs.Arrays.{unmapped}
use Rattle.matchmaker.proofs.Rows.{seats_fit, rows_known}
use Rattle.matchmaker.proofs.ProposedMatch.quality_by_rows.Goals as goal

pub slice_bounds-rows-end : goal.slice_bounds-rows-end
slice_bounds-rows-end c =
    let a = c.args in
    let x = c.args.self.a in
    let y = c.args.self.b in
    let v : length x.players ≡ 8 = search (unmapped, rules) in
    let w : length y.players ≡ 8 = search (unmapped, rules) in
    let u : length a.rows ≡ 16 = search (unmapped, rules) in
    let fit = seats_fit x.players y.players x.len y.len v w c.held-n.ensures c.seats-end.ensures in
    omega arith

pub slice_bounds-average_of_rows-end : goal.slice_bounds-average_of_rows-end
slice_bounds-average_of_rows-end c =
    let a = c.args in
    let x = c.args.self.a in
    let y = c.args.self.b in
    let v : length x.players ≡ 8 = search (unmapped, rules) in
    let w : length y.players ≡ 8 = search (unmapped, rules) in
    let u : length a.rows ≡ 16 = search (unmapped, rules) in
    let fit = seats_fit x.players y.players x.len y.len v w c.held-n.ensures c.seats-end.ensures in
    sym (length-take-le c.held-n.result a.rows (omega arith))

pub offset_bounds-rows-n : goal.offset_bounds-rows-n
offset_bounds-rows-n c =
    let a = c.args in
    let x = c.args.self.a in
    let y = c.args.self.b in
    let v : length x.players ≡ 8 = search (unmapped, rules) in
    let w : length y.players ≡ 8 = search (unmapped, rules) in
    let u : length a.rows ≡ 16 = search (unmapped, rules) in
    let fit = seats_fit x.players y.players x.len y.len v w c.held-n.ensures c.seats-end.ensures in
    search rules

pub slice_bounds-average_of_rows-count : goal.slice_bounds-average_of_rows-count
slice_bounds-average_of_rows-count c =
    let a = c.args in
    let x = c.args.self.a in
    let y = c.args.self.b in
    let v : length x.players ≡ 8 = search (unmapped, rules) in
    let w : length y.players ≡ 8 = search (unmapped, rules) in
    let u : length a.rows ≡ 16 = search (unmapped, rules) in
    let fit = seats_fit x.players y.players x.len y.len v w c.held-n.ensures c.seats-end.ensures in
    search rules

pub slice_bounds-average_of_rows-start : goal.slice_bounds-average_of_rows-start
slice_bounds-average_of_rows-start c =
    let a = c.args in
    let x = c.args.self.a in
    let y = c.args.self.b in
    let v : length x.players ≡ 8 = search (unmapped, rules) in
    let w : length y.players ≡ 8 = search (unmapped, rules) in
    let u : length a.rows ≡ 16 = search (unmapped, rules) in
    let fit = seats_fit x.players y.players x.len y.len v w c.held-n.ensures c.seats-end.ensures in
    search rules

pub slice_bounds-average_of_rows-end-2 : goal.slice_bounds-average_of_rows-end-2
slice_bounds-average_of_rows-end-2 c =
    let a = c.args in
    let x = c.args.self.a in
    let y = c.args.self.b in
    let v : length x.players ≡ 8 = search (unmapped, rules) in
    let w : length y.players ≡ 8 = search (unmapped, rules) in
    let u : length a.rows ≡ 16 = search (unmapped, rules) in
    let fit = seats_fit x.players y.players x.len y.len v w c.held-n.ensures c.seats-end.ensures in
    search rules

pub returns : goal.returns
returns c =
    let a = c.args in
    let x = c.args.self.a in
    let y = c.args.self.b in
    let v : length x.players ≡ 8 = search (unmapped, rules) in
    let w : length y.players ≡ 8 = search (unmapped, rules) in
    let u : length a.rows ≡ 16 = search (unmapped, rules) in
    let fit = seats_fit x.players y.players x.len y.len v w c.held-n.ensures c.seats-end.ensures in
    rows_known a.ratings.now a.rows c.seats-end.result c.held-n.ensures fit.3 c.average_of_rows-x.ensures c.average_of_rows-y.ensures c.quality_between.ensures
