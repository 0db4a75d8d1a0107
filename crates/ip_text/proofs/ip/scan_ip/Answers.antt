use Rattle.ip_text.proofs.IpLaws.{ip_quad, ip_groups}
use Rattle.ip_text.proofs.ip.scan_ip.Goals as goal

pub returns-then-quad_rest-rest : goal.returns-then-quad_rest-rest
returns-then-quad_rest-rest c = ip_quad _ _ _ _ _ _ c.read_row-quad.ensures.scan c.read_ipv6-number.ensures c.if-quad_rest-rest.true c.v4_of.ensures

pub returns : goal.returns
returns c = ip_groups _ _ _ _ _ _ c.read_row-quad.ensures.scan c.read_ipv6-number.ensures c.if-quad_rest-rest.false c.v6_of.ensures
