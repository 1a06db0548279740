use Rattle.mmdb_geoip2.specs.NamesTable.{names_table}
use Rattle.mmdb_geoip2.specs.CountryTables.{continent_table, country_table, represented_table, country_traits_table}
use Rattle.mmdb_geoip2.specs.CityTables.{city_table, location_table, postal_table, subdivision_table}
use Rattle.mmdb_geoip2.specs.EnterpriseTables.{enterprise_city_table, enterprise_country_table, enterprise_postal_table, enterprise_subdivision_table, enterprise_traits_table}
use Rattle.mmdb_geoip2.specs.NetworkTables.{isp_table, connection_type_table, anonymous_ip_table, density_income_table, domain_table, asn_table}
use Rattle.mmdb_geoip2.specs.RecordTables.{top_country_table, top_city_table, top_enterprise_table}
use Rattle.std.proofs.Common.{rules}
use Rattle.mmdb_geoip2.proofs.PlainLaws.{cloned_fields, cloned_list}
use Rattle.mmdb_geoip2.proofs.laws.record_clones_say_same.Goals as goal

pub returns-clause-names : goal.returns-clause-names
unfolding names_table
returns-clause-names c = λ x y e. search (rules, cloned_fields, c.option_clones_are_same.ensures.text) depth 40

pub returns-clause-continent : goal.returns-clause-continent
unfolding continent_table
returns-clause-continent c = λ x y e. search (rules, cloned_fields, c.option_clones_are_same.ensures.text, c.option_clones_are_same.ensures.short, c.option_clones_are_same.ensures.number, c.option_clones_are_same.ensures.small, returns-clause-names c) depth 40

pub returns-clause-country : goal.returns-clause-country
unfolding country_table
returns-clause-country c = λ x y e. search (rules, cloned_fields, c.option_clones_are_same.ensures.text, c.option_clones_are_same.ensures.short, c.option_clones_are_same.ensures.number, c.option_clones_are_same.ensures.small, c.option_clones_are_same.ensures.truth, returns-clause-names c) depth 40

pub returns-clause-represented_country : goal.returns-clause-represented_country
unfolding represented_table
returns-clause-represented_country c = λ x y e. search (rules, cloned_fields, c.option_clones_are_same.ensures.text, c.option_clones_are_same.ensures.short, c.option_clones_are_same.ensures.number, c.option_clones_are_same.ensures.small, c.option_clones_are_same.ensures.truth, returns-clause-names c) depth 40

pub returns-clause-country_traits : goal.returns-clause-country_traits
unfolding country_traits_table
returns-clause-country_traits c = λ x y e. search (rules, cloned_fields, c.option_clones_are_same.ensures.truth) depth 40

pub returns-clause-city : goal.returns-clause-city
unfolding city_table
returns-clause-city c = λ x y e. search (rules, cloned_fields, c.option_clones_are_same.ensures.short, c.option_clones_are_same.ensures.number, c.option_clones_are_same.ensures.small, returns-clause-names c) depth 40

pub returns-clause-location : goal.returns-clause-location
unfolding location_table
returns-clause-location c = λ x y e. search (rules, cloned_fields, c.option_clones_are_same.ensures.text, c.option_clones_are_same.ensures.short, c.option_clones_are_same.ensures.number, c.option_clones_are_same.ensures.small, c.option_clones_are_same.ensures.double) depth 40

pub returns-clause-postal : goal.returns-clause-postal
unfolding postal_table
returns-clause-postal c = λ x y e. search (rules, cloned_fields, c.option_clones_are_same.ensures.text) depth 40

pub returns-clause-subdivision : goal.returns-clause-subdivision
unfolding subdivision_table
returns-clause-subdivision c = λ x y e. search (rules, cloned_fields, c.option_clones_are_same.ensures.text, c.option_clones_are_same.ensures.short, c.option_clones_are_same.ensures.number, c.option_clones_are_same.ensures.small, returns-clause-names c) depth 40

pub returns-clause-enterprise_city : goal.returns-clause-enterprise_city
unfolding enterprise_city_table
returns-clause-enterprise_city c = λ x y e. search (rules, cloned_fields, c.option_clones_are_same.ensures.short, c.option_clones_are_same.ensures.number, c.option_clones_are_same.ensures.small, returns-clause-names c) depth 40

pub returns-clause-enterprise_country : goal.returns-clause-enterprise_country
unfolding enterprise_country_table
returns-clause-enterprise_country c = λ x y e. search (rules, cloned_fields, c.option_clones_are_same.ensures.text, c.option_clones_are_same.ensures.short, c.option_clones_are_same.ensures.number, c.option_clones_are_same.ensures.small, c.option_clones_are_same.ensures.truth, returns-clause-names c) depth 40

pub returns-clause-enterprise_postal : goal.returns-clause-enterprise_postal
unfolding enterprise_postal_table
returns-clause-enterprise_postal c = λ x y e. search (rules, cloned_fields, c.option_clones_are_same.ensures.text, c.option_clones_are_same.ensures.short) depth 40

pub returns-clause-enterprise_subdivision : goal.returns-clause-enterprise_subdivision
unfolding enterprise_subdivision_table
returns-clause-enterprise_subdivision c = λ x y e. search (rules, cloned_fields, c.option_clones_are_same.ensures.text, c.option_clones_are_same.ensures.short, c.option_clones_are_same.ensures.number, c.option_clones_are_same.ensures.small, returns-clause-names c) depth 40

pub returns-clause-enterprise_traits : goal.returns-clause-enterprise_traits
unfolding enterprise_traits_table
returns-clause-enterprise_traits c = λ x y e. search (rules, cloned_fields, c.option_clones_are_same.ensures.text, c.option_clones_are_same.ensures.short, c.option_clones_are_same.ensures.number, c.option_clones_are_same.ensures.small, c.option_clones_are_same.ensures.truth) depth 40

pub returns-clause-isp : goal.returns-clause-isp
unfolding isp_table
returns-clause-isp c = λ x y e. search (rules, cloned_fields, c.option_clones_are_same.ensures.text, c.option_clones_are_same.ensures.short, c.option_clones_are_same.ensures.number, c.option_clones_are_same.ensures.small) depth 40

pub returns-clause-connection_type : goal.returns-clause-connection_type
unfolding connection_type_table
returns-clause-connection_type c = λ x y e. search (rules, cloned_fields, c.option_clones_are_same.ensures.text) depth 40

pub returns-clause-anonymous_ip : goal.returns-clause-anonymous_ip
unfolding anonymous_ip_table
returns-clause-anonymous_ip c = λ x y e. search (rules, cloned_fields, c.option_clones_are_same.ensures.truth) depth 40

pub returns-clause-density_income : goal.returns-clause-density_income
unfolding density_income_table
returns-clause-density_income c = λ x y e. search (rules, cloned_fields, c.option_clones_are_same.ensures.short, c.option_clones_are_same.ensures.number, c.option_clones_are_same.ensures.small) depth 40

pub returns-clause-domain : goal.returns-clause-domain
unfolding domain_table
returns-clause-domain c = λ x y e. search (rules, cloned_fields, c.option_clones_are_same.ensures.text) depth 40

pub returns-clause-asn : goal.returns-clause-asn
unfolding asn_table
returns-clause-asn c = λ x y e. search (rules, cloned_fields, c.option_clones_are_same.ensures.text, c.option_clones_are_same.ensures.short, c.option_clones_are_same.ensures.number, c.option_clones_are_same.ensures.small) depth 40

pub returns-clause-top_country : goal.returns-clause-top_country
unfolding top_country_table
returns-clause-top_country c = λ x y e. search (rules, cloned_fields, returns-clause-continent c, returns-clause-country c, returns-clause-represented_country c, returns-clause-country_traits c) depth 40

pub returns-clause-top_city : goal.returns-clause-top_city
unfolding top_city_table
returns-clause-top_city c = λ x y e. search (rules, cloned_fields, returns-clause-city c, returns-clause-continent c, returns-clause-country c, returns-clause-location c, returns-clause-postal c, returns-clause-represented_country c, returns-clause-country_traits c, cloned_list subdivision_table _ (returns-clause-subdivision c)) depth 40

pub returns-clause-top_enterprise : goal.returns-clause-top_enterprise
unfolding top_enterprise_table
returns-clause-top_enterprise c = λ x y e. search (rules, cloned_fields, returns-clause-enterprise_city c, returns-clause-continent c, returns-clause-enterprise_country c, returns-clause-location c, returns-clause-enterprise_postal c, returns-clause-represented_country c, returns-clause-enterprise_traits c, cloned_list enterprise_subdivision_table _ (returns-clause-enterprise_subdivision c)) depth 40
