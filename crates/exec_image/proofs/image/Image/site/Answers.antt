use Rattle.std.proofs.Common.{◌≡◌, rules}
use Rattle.site_spec.specs.Sites.{site_at}
use Rattle.exec_image.proofs.Absent.{site_none}
use Rattle.exec_image.proofs.image.Image.site.Goals as goal

pub returns-clause-none : goal.returns-clause-none
returns-clause-none c =
    let is : c.find_site.result ≡ site_at c.args.self.now c.args.addr = search rules in
    rw is (site_none c.args.self.now c.args.addr)
