use Rattle.std.proofs.Common.{rules, ◌≤◌, length}
use Rattle.std.proofs.lemmas.Option.{slice_get-get_or}
use Rattle.uc_run.proofs.PackedWrites.{starts_before, ends_inside, read_there}
use Rattle.uc_run.proofs.slot_slice.write_at.Goals as goal

pub slice_bounds-read-count : goal.slice_bounds-read-count
slice_bounds-read-count c =
    let a = c.args in
    starts_before a.text.now a.slots.now a.place _ c.start.result c.end_of_first-end.result (slice_get-get_or a.slots.now a.place (record { trailer = 0; start = 0 }) c.requires.there) c.start.ensures c.end_of_first-end.ensures c.requires.order

pub slice_bounds-read-start : goal.slice_bounds-read-start
slice_bounds-read-start c =
    let a = c.args in
    let before : c.start.result ≤ c.end_of_first-end.result = starts_before a.text.now a.slots.now a.place _ c.start.result c.end_of_first-end.result (slice_get-get_or a.slots.now a.place (record { trailer = 0; start = 0 }) c.requires.there) c.start.ensures c.end_of_first-end.ensures c.requires.order in
    let inside : c.end_of_first-end.result ≤ length a.text.now = ends_inside a.text.now a.slots.now a.place _ c.start.result c.end_of_first-end.result (slice_get-get_or a.slots.now a.place (record { trailer = 0; start = 0 }) c.requires.there) c.start.ensures c.end_of_first-end.ensures c.requires.order in
    search rules

pub slice_bounds-read-end : goal.slice_bounds-read-end
slice_bounds-read-end c =
    let a = c.args in
    let before : c.start.result ≤ c.end_of_first-end.result = starts_before a.text.now a.slots.now a.place _ c.start.result c.end_of_first-end.result (slice_get-get_or a.slots.now a.place (record { trailer = 0; start = 0 }) c.requires.there) c.start.ensures c.end_of_first-end.ensures c.requires.order in
    let inside : c.end_of_first-end.result ≤ length a.text.now = ends_inside a.text.now a.slots.now a.place _ c.start.result c.end_of_first-end.result (slice_get-get_or a.slots.now a.place (record { trailer = 0; start = 0 }) c.requires.there) c.start.ensures c.end_of_first-end.ensures c.requires.order in
    search rules

pub returns : goal.returns
returns c =
    let a = c.args in
    read_there a.text.now a.slots.now a.place _ c.start.result c.end_of_first-end.result (slice_get-get_or a.slots.now a.place (record { trailer = 0; start = 0 }) c.requires.there) c.start.ensures c.end_of_first-end.ensures c.read.result c.read.ensures
