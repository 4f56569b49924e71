use Rattle.er_run.proofs.tell.put_found.Goals as goal

pub put_line-requires : goal.put_line-requires
put_line-requires g c =
    let j = c.requires.is_judged in
    let f = rw c.in-Line.is at j.is_found in
    record { list = c.requires.list; stands = j.stands; is = f.1 }

pub returns-in-Line : goal.returns-in-Line
returns-in-Line g c = λ asked h j.
    let f = rw c.in-Line.is at j.is_found in
    rw f.0.1 (c.put_line.ensures h j.stands)

pub put_report-requires : goal.put_report-requires
put_report-requires g c =
    let j = c.requires.is_judged in
    let f = rw c.in-Report.is at j.is_found in
    record { list = c.requires.list; stands = j.stands; is = f.1 }

pub returns-in-Report : goal.returns-in-Report
returns-in-Report g c = λ asked h j.
    let f = rw c.in-Report.is at j.is_found in
    rw f.0.1 (c.put_report.ensures h j.stands)

pub put_summary-requires : goal.put_summary-requires
put_summary-requires g c =
    let j = c.requires.is_judged in
    let f = rw c.in-Summary.is at j.is_found in
    record { list = c.requires.list; stands = j.stands; is = f.1 }

pub returns-in-Summary : goal.returns-in-Summary
returns-in-Summary g c = λ asked h j.
    let f = rw c.in-Summary.is at j.is_found in
    rw f.0 (c.put_summary.ensures h j.stands)

pub put_orders-requires : goal.put_orders-requires
put_orders-requires g c =
    let j = c.requires.is_judged in
    let f = rw c.in-Orders.is at j.is_found in
    record { list = c.requires.list; stands = j.stands; are = rw c.deref.ensures.value f.1 }

pub returns-in-Orders : goal.returns-in-Orders
returns-in-Orders g c = λ asked h j.
    let f = rw c.in-Orders.is at j.is_found in
    rw f.0 (c.put_orders.ensures h j.stands (rw c.deref.ensures.value f.1))

pub returns-in-Steps : goal.returns-in-Steps
returns-in-Steps g c = λ asked h j.
    let f = rw c.in-Steps.is at j.is_found in
    rw f.0 (rw f.1.is at c.write_steps.ensures)
