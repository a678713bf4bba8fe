use Rattle.std.proofs.Common.{◌≤◌, ◌∙◌, arith, length}
use Rattle.std.proofs.Math.ListN.{drop_of_length-le}
use Rattle.std.proofs.lemmas.Result.{err_from_is_err_and}
use Rattle.etherparse.proofs.Ipv4Reading.{front_read, is_reading_of, options_in_room}
use Rattle.etherparse.proofs.net.ipv4_header.Ipv4Header.from_slice.Goals as goal

pub header_with-requires-then-slice-ge-MAX_LEN : goal.header_with-requires-then-slice-ge-MAX_LEN
header_with-requires-then-slice-ge-MAX_LEN c =
    let view = c.in_ok-view.view in
    let room = (rw c.unwrap-bytes.ensures at c.first_chunk.ensures.cases).same in
    c.from_front-options.ensures.value
    ∙ options_in_room c.args.slice.now view.slice.now _ _ c.in_ok-view.ensures.views.whole (omega (arith, view.ihl, view.len)) (omega (arith, view.len)) room

pub returns-then-len-eq-MIN_LEN : goal.returns-then-len-eq-MIN_LEN
returns-then-len-eq-MIN_LEN c = record { reads = front_read _ _ _ _ c.in_ok-view.ensures.views.whole c.header_with.ensures.layout }

pub returns-then-slice-ge-MAX_LEN : goal.returns-then-slice-ge-MAX_LEN
returns-then-slice-ge-MAX_LEN c = record { reads = front_read _ _ _ _ c.in_ok-view.ensures.views.whole c.header_with-then-slice-ge-MAX_LEN.ensures.layout }

pub returns : goal.returns
returns c = record { reads = front_read _ _ _ _ c.in_ok-view.ensures.views.whole c.header_with-2.ensures.layout }

pub returns-in_err-view : goal.returns-in_err-view
returns-in_err-view c =
    let error = err_from_is_err_and c.from_residual.result c.from_residual.ensures.1 in
    rw (error.1, error.2) (record { reads = is_reading_of _ _ c.in_err-view.ensures.views })

pub header_with-requires : goal.header_with-requires
header_with-requires c =
    let short : length c.in_ok-view.view.slice.now ≤ 20 = omega arith in
    rw (drop_of_length-le c.in_ok-view.view.slice.now short) c.new.ensures.empty

pub options_of-requires : goal.options_of-requires
options_of-requires c = c.options.ensures.options_len

pub header_with-requires-2 : goal.header_with-requires-2
header_with-requires-2 c = c.options_of.ensures ∙ c.options.ensures.from_byte_20

pub from_front-options-requires : goal.from_front-options-requires
from_front-options-requires c = let view = c.in_ok-view.view in omega (arith, view.ihl, view.len)
