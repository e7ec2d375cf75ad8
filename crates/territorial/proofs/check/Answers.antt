-- `territorial::check` meets its contract: each turn settles one transaction in doubt, whose claims are listed and counted. Assumes nothing.
use Rattle.std.proofs.Common.{◌≡◌, ◌≤◌, refl, sym, ap, ◌∙◌, arith, length, take, drop}
use lib.Seq.{length-take-le}
use Rattle.std.proofs.Math.Seq.{take_at}
use Rattle.claims.specs.Entries.{over_in}
use Rattle.parties.specs.Ahead.{entries_at}
use Rattle.tables.specs.Lent.{lent_in}
use Rattle.territorial.proofs.Laws.{doubt, ended, refused-so, told-over}
use Rattle.territorial.proofs.check.Goals as goal

pub returns-in_err-passed : goal.returns-in_err-passed
returns-in_err-passed c = refused-so c.args.claims.now _ _ c.from_residual.ensures.1 c.in_err-passed.ensures

pub begin-s-requires : goal.begin-s-requires
begin-s-requires c = (length c.args.claims.now, (_, _, _, c.in_ok-passed.ensures))

pub loop-s-init : goal.loop-s-init
loop-s-init c = (c.begin-s.ensures _ (_, _, _, c.in_ok-passed.ensures), refl)

pub fill-n-requires : goal.fill-n-requires
fill-n-requires c =
    let d = doubt c.loop-s.invariant.0 c.in-Some.first c.in-Some.is in
    (d.within, omega (arith, d.fits, c.loop-s.invariant.1))

pub exceeding-over-requires : goal.exceeding-over-requires
exceeding-over-requires c =
    let d = doubt c.loop-s.invariant.0 c.in-Some.first c.in-Some.is in
    let long : length c.fill-n.new.claims ≡ length c.args.claims.now = c.fill-n.auto.claims ∙ c.loop-s.invariant.1 in
    let count : c.fill-n.result ≤ length c.fill-n.new.claims = omega (arith, c.fill-n.ensures.0, d.fits, long) in
    let listed = length-take-le c.fill-n.result c.fill-n.new.claims count in
    (omega (arith, listed, c.fill-n.ensures.0, d.few), d.right, d.small)

pub go_on-s-requires : goal.go_on-s-requires
go_on-s-requires c =
    let a = c.args in
    let n = c.fill-n.result in
    let es = entries_at a.file.now a.territories.now c.in-Some.first 0 in
    let all = ap (take n) c.fill-n.ensures.1 ∙ take_at es (drop n c.loop-s.claims) n (sym c.fill-n.ensures.0) in (
      c.in-Some.first,
      lent_in a.tables,
      length a.claims.now,
      a.verdicts.now,
      a.findings.now,
      c.loop-s.invariant.0,
      c.in-Some.is,
      c.exceeding-over.ensures ∙ ap (over_in a.territories.now a.tolerance) all,
    )

pub loop-s-preserved : goal.loop-s-preserved
loop-s-preserved c =
    let a = c.args in
    let inv = c.loop-s.invariant in (
      c.go_on-s.ensures.going (lent_in a.tables) (length a.claims.now) a.verdicts.now a.findings.now inv.0,
      c.fill-n.auto.claims ∙ inv.1,
    )

pub returns : goal.returns
returns c =
    let inv = c.loop-s.invariant in
    rw (c.clear.ensures, inv.1)
    (ended inv.0 c.args.claims.now _ c.in_ok-passed.ensures refl c.in_default.is (told-over c.loop-s.s.walk.over))
