use Rattle.std.proofs.Common.{drop, ap, ◌∙◌}
use Rattle.left_right.specs.Sides.{view}
use Rattle.query.proofs.Keeping.{shows, shows_more, shows_same, leaves_none, stays}
use Rattle.query.proofs.publisher.shown.Goals as goal

pub publish_as-requires : goal.publish_as-requires
publish_as-requires g c next is =
    let old = c.args.writer in
    let given = c.append.new.self in
    shows _ (view given.desk.place) old.desk.shown.value given.desk.shown.value next c.args.entry (drop old.behind old.log.items) (drop given.behind given.log.items)
    (ap (λ d. d.shown.value) c.append.ensures.desk) c.requires.none c.in-Ok.ensures.pending c.requires.linked c.requires.definitions c.requires.list c.requires.book is

pub returns-clause-place : goal.returns-clause-place
returns-clause-place g c =
    let given = c.append.new.self in
    let made = c.publish_as.result in
    stays made.1 (view given.desk.place) (view made.0.desk.place) given.desk.shown.value made.0.desk.shown.value c.publish_as.ensures.rule ∙ ap (λ d. view d.place) c.append.ensures.desk

pub returns-clause-ok : goal.returns-clause-ok
returns-clause-ok g c =
    let old = c.args.writer in
    let given = c.append.new.self in
    let made = c.publish_as.result in
    shows_more given.desk.shown.value made.0.desk.shown.value (drop given.behind given.log.items) (drop made.0.behind made.0.log.items)
    old.desk.shown.value c.args.entry (drop old.behind old.log.items) made.1 c.publish_as.ensures.values
    (ap (λ d. d.shown.value) c.append.ensures.desk) c.requires.none c.in-Ok.ensures.pending

pub returns-clause-none : goal.returns-clause-none
returns-clause-none g c =
    let given = c.append.new.self in
    let made = c.publish_as.result in
    leaves_none given.desk.shown.value made.0.desk.shown.value (drop given.behind given.log.items) (drop made.0.behind made.0.log.items) made.1 c.publish_as.ensures.values

pub returns-clause-err : goal.returns-clause-err
returns-clause-err g c =
    let old = c.args.writer in
    let given = c.append.new.self in
    let made = c.publish_as.result in
    shows_same given.desk.shown.value made.0.desk.shown.value (drop given.behind given.log.items) (drop made.0.behind made.0.log.items)
    old.desk.shown.value made.1 c.publish_as.ensures.values (ap (λ d. d.shown.value) c.append.ensures.desk)
