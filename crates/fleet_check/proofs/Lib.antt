mod Checks
