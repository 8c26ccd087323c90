use Rattle.std.proofs.Common.{length, sym, ◌∙◌, arith}
use Rattle.profile_text.specs.Reading.{addrs_at}
use Rattle.profile_text.proofs.Addresses.{ends, stops, goes, none_left}
use Rattle.profile_text.proofs.lines.read_addrs.Goals as goal

pub returns-in-Some : goal.returns-in-Some
unfolding addrs_at
returns-in-Some c = sym c.loop-at.invariant
    ∙ ends (length c.args.text.now) c.loop-at.at c.loop-at.addrs c.loop-at.rest.now c.in-Some.after.now
    (omega arith) c.in-Some.ensures

pub returns-in_default-read_addr : goal.returns-in_default-read_addr
unfolding addrs_at
returns-in_default-read_addr c =
    sym c.loop-at.invariant
    ∙ stops (length c.args.text.now) c.loop-at.at c.loop-at.addrs c.loop-at.rest.now
    (omega arith) c.in_default.ensures c.in_default-read_addr.ensures

pub loop-at-preserved : goal.loop-at-preserved
loop-at-preserved c =
    rw (c.in_ok-push.ensures.ok)
    (sym (goes (length c.args.text.now) c.loop-at.at c.loop-at.addrs c.loop-at.rest.now c.in-Some-read_addr.addr
    c.in-Some-read_addr.after.now
    (omega arith) c.in_default.ensures c.in-Some-read_addr.ensures)
    ∙ c.loop-at.invariant)

pub returns : goal.returns
unfolding addrs_at
returns c = sym c.loop-at.invariant ∙ none_left (length c.args.text.now) c.loop-at.at c.loop-at.addrs c.loop-at.rest.now
    (omega arith)
