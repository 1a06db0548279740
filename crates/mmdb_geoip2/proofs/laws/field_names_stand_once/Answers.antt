use Rattle.mmdb_geoip2.specs.RecordTables.{top_country_table, top_city_table, top_enterprise_table}
use Rattle.mmdb_geoip2.specs.NetworkTables.{isp_table, connection_type_table, anonymous_ip_table, density_income_table, domain_table, asn_table}
use Rattle.mmdb_geoip2.specs.NamesTable.{names_table}
use Rattle.mmdb_geoip2.specs.CountryTables.{continent_table, country_table, represented_table, country_traits_table}
use Rattle.mmdb_geoip2.specs.CityTables.{city_table, location_table, postal_table, subdivision_table}
use Rattle.mmdb_geoip2.specs.EnterpriseTables.{enterprise_city_table, enterprise_country_table, enterprise_postal_table, enterprise_subdivision_table, enterprise_traits_table}
use Rattle.mmdb_record.proofs.FieldNameLaws.{field_names_stand_once}
use Rattle.mmdb_geoip2.proofs.laws.field_names_stand_once.Goals as goal

pub returns-clause-names : goal.returns-clause-names
returns-clause-names c = field_names_stand_once names_table

pub returns-clause-continent : goal.returns-clause-continent
returns-clause-continent c = field_names_stand_once continent_table

pub returns-clause-country : goal.returns-clause-country
returns-clause-country c = field_names_stand_once country_table

pub returns-clause-represented_country : goal.returns-clause-represented_country
returns-clause-represented_country c = field_names_stand_once represented_table

pub returns-clause-country_traits : goal.returns-clause-country_traits
returns-clause-country_traits c = field_names_stand_once country_traits_table

pub returns-clause-city : goal.returns-clause-city
returns-clause-city c = field_names_stand_once city_table

pub returns-clause-location : goal.returns-clause-location
returns-clause-location c = field_names_stand_once location_table

pub returns-clause-postal : goal.returns-clause-postal
returns-clause-postal c = field_names_stand_once postal_table

pub returns-clause-subdivision : goal.returns-clause-subdivision
returns-clause-subdivision c = field_names_stand_once subdivision_table

pub returns-clause-enterprise_city : goal.returns-clause-enterprise_city
returns-clause-enterprise_city c = field_names_stand_once enterprise_city_table

pub returns-clause-enterprise_country : goal.returns-clause-enterprise_country
returns-clause-enterprise_country c = field_names_stand_once enterprise_country_table

pub returns-clause-enterprise_postal : goal.returns-clause-enterprise_postal
returns-clause-enterprise_postal c = field_names_stand_once enterprise_postal_table

pub returns-clause-enterprise_subdivision : goal.returns-clause-enterprise_subdivision
returns-clause-enterprise_subdivision c = field_names_stand_once enterprise_subdivision_table

pub returns-clause-enterprise_traits : goal.returns-clause-enterprise_traits
returns-clause-enterprise_traits c = field_names_stand_once enterprise_traits_table

pub returns-clause-isp : goal.returns-clause-isp
returns-clause-isp c = field_names_stand_once isp_table

pub returns-clause-connection_type : goal.returns-clause-connection_type
returns-clause-connection_type c = field_names_stand_once connection_type_table

pub returns-clause-anonymous_ip : goal.returns-clause-anonymous_ip
returns-clause-anonymous_ip c = field_names_stand_once anonymous_ip_table

pub returns-clause-density_income : goal.returns-clause-density_income
returns-clause-density_income c = field_names_stand_once density_income_table

pub returns-clause-domain : goal.returns-clause-domain
returns-clause-domain c = field_names_stand_once domain_table

pub returns-clause-asn : goal.returns-clause-asn
returns-clause-asn c = field_names_stand_once asn_table

pub returns-clause-top_country : goal.returns-clause-top_country
returns-clause-top_country c = field_names_stand_once top_country_table

pub returns-clause-top_city : goal.returns-clause-top_city
returns-clause-top_city c = field_names_stand_once top_city_table

pub returns-clause-top_enterprise : goal.returns-clause-top_enterprise
returns-clause-top_enterprise c = field_names_stand_once top_enterprise_table
