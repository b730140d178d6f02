use Rattle.std.proofs.Common.{refl}
use Rattle.ftd_ports.proofs.WritingFacts.{begins, goes_on, stops_after, ends_in}
use Rattle.ftd_answers.proofs.RowFormatFacts.{json_parts}
use Rattle.ftd_answers.proofs.forms.write_json.Goals as goal

pub returns-in_err-write_all : goal.returns-in_err-write_all
returns-in_err-write_all g c =
    stops_after _ c.from_residual.ensures.0 begins
    (json_parts (g.T.Row.fields c.args.account.now) c.args.rows.now c.args.sums.now)
    c.in_err-write_all.ensures

pub returns-in_err-write_array : goal.returns-in_err-write_array
returns-in_err-write_array g c =
    let head = goes_on _ _ begins
    (json_parts (g.T.Row.fields c.args.account.now) c.args.rows.now c.args.sums.now)
    c.in_ok-write_all.ensures.ok in
    stops_after _ c.from_residual-in_err-write_array.ensures.0 head refl
    c.in_err-write_array.ensures

pub returns-in_err-write_others : goal.returns-in_err-write_others
returns-in_err-write_others g c =
    let head = goes_on _ _ begins
    (json_parts (g.T.Row.fields c.args.account.now) c.args.rows.now c.args.sums.now)
    c.in_ok-write_all.ensures.ok in
    let rows = goes_on _ _ head refl c.in_ok-write_array.ensures.ok in
    stops_after _ c.from_residual-in_err-write_others.ensures.0 rows refl
    c.in_err-write_others.ensures

pub returns : goal.returns
returns g c =
    let head = goes_on _ _ begins
    (json_parts (g.T.Row.fields c.args.account.now) c.args.rows.now c.args.sums.now)
    c.in_ok-write_all.ensures.ok in
    let rows = goes_on _ _ head refl c.in_ok-write_array.ensures.ok in
    let sums = goes_on _ _ rows refl c.in_ok-write_others.ensures.ok in
    ends_in sums c.write_all-2.ensures
